use Rattle.settlement_laws.proofs.DayEnd.EndIsLast.{ended_is_complete}
use Rattle.settlement_laws.proofs.laws.end_is_last.Goals as goal

pub returns : goal.returns
returns c = ended_is_complete
