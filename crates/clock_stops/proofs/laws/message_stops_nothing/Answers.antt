use Rattle.clock_stops.proofs.LongerFacts.{message_comes}
use Rattle.clock_stops.proofs.laws.message_stops_nothing.Goals as goal

pub returns : goal.returns
returns c = message_comes
