use Rattle.settlement_laws.proofs.EachLaw.WithinLimits.{booked_in_its_cycle}
use Rattle.settlement_laws.proofs.laws.booked_in_its_cycle.Goals as goal

pub returns : goal.returns
returns c = booked_in_its_cycle
