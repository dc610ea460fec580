use Rattle.settlement_laws.proofs.EachLaw.ObjectionsHaveForce.{objections_have_force}
use Rattle.settlement_laws.proofs.laws.objections_have_force.Goals as goal

pub returns : goal.returns
returns c = objections_have_force
