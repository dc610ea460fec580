use Rattle.settlement_laws.proofs.EachLaw.SameVersion.{legal_in_room}
use Rattle.settlement_laws.proofs.laws.room_changes_no_line.Goals as goal

pub returns : goal.returns
returns c = legal_in_room
