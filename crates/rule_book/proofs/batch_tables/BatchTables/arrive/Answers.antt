use Rattle.std.proofs.Common.{length}
use Rattle.machine.specs.Records.Messages.{entries}
use Rattle.rule_book.proofs.RoomFacts.{tables_more, tables_room_left}
use Rattle.rule_book.proofs.batch_tables.BatchTables.arrive.Goals as goal

pub arrive-requires-clause-moved : goal.arrive-requires-clause-moved
arrive-requires-clause-moved c = c.requires.found_out.1.0

pub arrive-requires-clause-none : goal.arrive-requires-clause-none
arrive-requires-clause-none c = c.requires.next.free

pub arrive-requires-clause-room : goal.arrive-requires-clause-room
arrive-requires-clause-room c = c.requires.room.debts

pub arrive-requires-2-clause-moved : goal.arrive-requires-2-clause-moved
arrive-requires-2-clause-moved c = c.requires.found_out.1.0

pub arrive-requires-2-clause-numbered : goal.arrive-requires-2-clause-numbered
arrive-requires-2-clause-numbered c = c.requires.next.numbers

pub arrive-requires-2-clause-before : goal.arrive-requires-2-clause-before
arrive-requires-2-clause-before c = c.requires.next.before

pub arrive-requires-2-clause-room : goal.arrive-requires-2-clause-room
arrive-requires-2-clause-room c = c.requires.room.keys

pub returns-clause-tabled : goal.returns-clause-tabled
returns-clause-tabled c = λ before m is are.
    tables_more before m c.args.day.now c.args.n c.args.self.now (record { debts = c.arrive.new.self; parties = c.arrive-2.new.self }) is c.requires.last c.arrive.ensures.own c.arrive.ensures.others c.arrive-2.ensures.arrived c.arrive-2.ensures.numbers are

pub returns-clause-room : goal.returns-clause-room
returns-clause-room c = λ more room.
    tables_room_left more (length (entries c.args.day.now c.args.n)) c.args.self.now (record { debts = c.arrive.new.self; parties = c.arrive-2.new.self }) c.arrive.ensures.count c.arrive.ensures.most c.arrive-2.ensures.len c.arrive-2.ensures.most room
