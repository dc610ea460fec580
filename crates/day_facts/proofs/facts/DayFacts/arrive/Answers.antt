use Rattle.std.proofs.Common.{arith}
use Rattle.day_facts.proofs.Longer.{message_comes_next}
use Rattle.day_facts.proofs.Room.{room_left}
use Rattle.day_facts.proofs.facts.DayFacts.arrive.Goals as goal

pub take-requires-clause-messages : goal.take-requires-clause-messages
take-requires-clause-messages c = omega (arith, c.requires.for_messages)

pub take-requires-clause-items : goal.take-requires-clause-items
take-requires-clause-items c = omega (arith, c.requires.for_items)

pub returns-clause-room : goal.returns-clause-room
returns-clause-room c = λ messages more room. room_left c.args.setting.now.day c.args.n messages more _ _ c.take.ensures room

pub returns-clause-day : goal.returns-clause-day
returns-clause-day c = λ day m ms ss J next stays stands. message_comes_next c.args.setting.now.day c.args.n day m ms ss J _ _ c.take.ensures next stays stands
