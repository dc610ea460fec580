use Rattle.day_facts.proofs.LongerFacts.{message_comes, stop_comes}
use Rattle.day_facts.proofs.growing.facts_grow_with_their_day.Goals as goal

pub returns-clause-message : goal.returns-clause-message
returns-clause-message c = message_comes

pub returns-clause-stop : goal.returns-clause-stop
returns-clause-stop c = stop_comes
