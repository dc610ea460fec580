use Rattle.settlement_laws.proofs.EachLaw.WithinLimits.{locked_in_cycles}
use Rattle.settlement_laws.proofs.laws.locked_in_cycles.Goals as goal

pub returns : goal.returns
returns c = locked_in_cycles
