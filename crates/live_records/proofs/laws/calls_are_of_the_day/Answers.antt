use Rattle.live_records.proofs.CallFacts.{rounds_fit, stops_fit}
use Rattle.live_records.proofs.laws.calls_are_of_the_day.Goals as goal

pub returns-clause-rounds : goal.returns-clause-rounds
returns-clause-rounds c = rounds_fit

pub returns-clause-stops : goal.returns-clause-stops
returns-clause-stops c = stops_fit
