use Rattle.settlement_laws.proofs.EachLaw.WithinLimits.{reserves_are_kept}
use Rattle.settlement_laws.proofs.laws.reserves_are_kept.Goals as goal

pub returns : goal.returns
returns c = reserves_are_kept
