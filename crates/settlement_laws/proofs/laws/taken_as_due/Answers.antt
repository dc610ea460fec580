use Rattle.settlement_laws.proofs.EachLaw.TakenAsDue.{taken_as_due}
use Rattle.settlement_laws.proofs.laws.taken_as_due.Goals as goal

pub returns : goal.returns
returns c = taken_as_due
