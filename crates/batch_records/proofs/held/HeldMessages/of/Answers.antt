use Rattle.batch_records.proofs.RoomFacts.{held_as}
use Rattle.batch_records.proofs.held.HeldMessages.of.Goals as goal

pub returns : goal.returns
returns c = held_as _ _ _ _ c.into_parts-records.ensures.joined
