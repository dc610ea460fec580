use Rattle.day_facts.proofs.Longer.{none_stand}
use Rattle.day_facts.proofs.Room.{room_there}
use Rattle.day_facts.proofs.facts.DayFacts.empty.Goals as goal

pub returns-clause-empty : goal.returns-clause-empty
returns-clause-empty c = λ day few. none_stand day c.args.systems _ _ few (c.in_ok-facts.ensures.rows day)

pub returns-clause-room : goal.returns-clause-room
returns-clause-room c = room_there c.args.messages c.args.entries _ c.in_ok-facts.ensures.room
