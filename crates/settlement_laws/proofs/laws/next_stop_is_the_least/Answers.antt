use Rattle.settlement_laws.proofs.DayEnd.NextStopIsTheLeast.{next_stop_is_the_least}
use Rattle.settlement_laws.proofs.laws.next_stop_is_the_least.Goals as goal

pub returns : goal.returns
returns c = next_stop_is_the_least
