use Rattle.settlement_laws.proofs.EachLaw.SameOrder.{plain_in_room}
use Rattle.settlement_laws.proofs.laws.room_changes_no_order.Goals as goal

pub returns : goal.returns
returns c = plain_in_room
