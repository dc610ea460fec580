use Rattle.settlement_laws.proofs.DayEnd.TimeWaits.{time_waits}
use Rattle.settlement_laws.proofs.laws.time_waits.Goals as goal

pub returns : goal.returns
returns c = time_waits
