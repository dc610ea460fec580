use Rattle.settlement_laws.proofs.EachLaw.WithinLimits.{moved_as_stated}
use Rattle.settlement_laws.proofs.laws.moved_as_stated.Goals as goal

pub returns : goal.returns
returns c = moved_as_stated
