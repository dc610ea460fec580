use Rattle.settlement_laws.proofs.EachLaw.RejectedDoNothing.{rejected_do_nothing}
use Rattle.settlement_laws.proofs.laws.rejected_do_nothing.Goals as goal

pub returns : goal.returns
returns c = rejected_do_nothing
