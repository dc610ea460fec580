use Rattle.std.proofs.Common.{◌∙◌, ◌+◌, ap, arith, length, subst, sym}
use Rattle.batch_records.specs.DayRecord.{Day}
use Rattle.batch_records.proofs.SoundFacts.{message_parts}
use Rattle.machine.specs.Records.Messages.{entries}
use Rattle.rule_book.specs.Room.{FoundHasRoom, TablesHaveRoom}
use Rattle.rule_book.proofs.ComingFacts.{lacks_last}
use Rattle.rule_book.proofs.OldMessages.{one_longer}
use Rattle.rule_book.proofs.arriving.take_last.Goals as goal

pub overflow_cast-n : goal.overflow_cast-n
overflow_cast-n c = let few = (message_parts c.args.day.now c.requires.sound).few_messages in omega (arith, few, c.message_count-n.ensures)

pub arrive-requires-clause-there : goal.arrive-requires-clause-there
arrive-requires-clause-there c =
    let next = c.requires.next in
    let long = ap (λ (d : Day). length d.messages) next.longer ∙ one_longer next.before next.last in
    omega (arith, long, c.message_count-n.ensures)

pub arrive-requires-clause-room : goal.arrive-requires-clause-room
arrive-requires-clause-room c = subst (λ n. FoundHasRoom 1 (length (entries c.args.day.now n)) c.args.found.now) (sym c.message_count-n.ensures) c.requires.found_room

pub arrive-requires-2-clause-found_out : goal.arrive-requires-2-clause-found_out
arrive-requires-2-clause-found_out c = let next = c.requires.next in c.arrive.ensures.found next.before next.last next.longer next.found_out

pub arrive-requires-2-clause-next : goal.arrive-requires-2-clause-next
arrive-requires-2-clause-next c = let next = c.requires.next in lacks_last next.before next.last c.args.day.now c.message_count-n.result c.args.tables.now next.longer c.message_count-n.ensures next.tabled

pub arrive-requires-2-clause-room : goal.arrive-requires-2-clause-room
arrive-requires-2-clause-room c = subst (λ n. TablesHaveRoom (length (entries c.args.day.now n)) c.args.tables.now) (sym c.message_count-n.ensures) c.requires.tables_room

pub returns-clause-found_out : goal.returns-clause-found_out
returns-clause-found_out c = let next = c.requires.next in c.arrive.ensures.found next.before next.last next.longer next.found_out

pub returns-clause-tabled : goal.returns-clause-tabled
returns-clause-tabled c = let next = c.requires.next in c.arrive-2.ensures.tabled next.before next.last next.longer next.tabled

pub returns-clause-found_room : goal.returns-clause-found_room
returns-clause-found_room c = λ messages more room.
    c.arrive.ensures.room messages more (subst (λ n. FoundHasRoom (messages + 1) (more + length (entries c.args.day.now n)) c.args.found.now) (sym c.message_count-n.ensures) room)

pub returns-clause-tables_room : goal.returns-clause-tables_room
returns-clause-tables_room c = λ more room.
    c.arrive-2.ensures.room more (subst (λ n. TablesHaveRoom (more + length (entries c.args.day.now n)) c.args.tables.now) (sym c.message_count-n.ensures) room)
