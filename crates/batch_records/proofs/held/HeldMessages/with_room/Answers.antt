use Rattle.std.proofs.Common.{◌∙◌, ap}
use Rattle.batch_records.proofs.FlatFacts.{none_joined, none_rows}
use Rattle.batch_records.proofs.RoomFacts.{held_as, room_first}
use Rattle.batch_records.proofs.held.HeldMessages.with_room.Goals as goal

pub invariant_of-result : goal.invariant_of-result
invariant_of-result c = (none_rows _ _ c.in_ok-records.ensures.items (ap (λ r. r.rows) c.in_ok-rows.ensures), room_first _ _ _ _ c.in_ok-records.ensures.capacity c.in_ok-rows.ensures)

pub returns : goal.returns
returns c = held_as _ _ _ _ (none_joined _ _ c.in_ok-records.ensures.items)
