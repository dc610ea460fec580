use Rattle.std.proofs.Common.{◌-◌, arith, sym, subst}
use Rattle.batch_records.specs.Flat.{with_entries}
use Rattle.batch_records.specs.Parts.{entries_at}
use Rattle.batch_records.specs.declared.day.Message.{Message}
use Rattle.rule_book.specs.Repeated.{AreRepeats, with_one}
use Rattle.rule_book.specs.Settings.{accounts_of}
use Rattle.rule_book.proofs.OldMessages.{last_is}
use Rattle.rule_book.proofs.RoomFacts.{found_more, found_room_left}
use Rattle.rule_book.proofs.found.Found.arrive.Goals as goal

pub arrive-requires : goal.arrive-requires
arrive-requires c = omega (arith, c.requires.room.names)

pub arrive-requires-2-clause-message : goal.arrive-requires-2-clause-message
arrive-requires-2-clause-message c = omega (arith, c.requires.room.rows)

pub arrive-requires-2-clause-entries : goal.arrive-requires-2-clause-entries
arrive-requires-2-clause-entries c = c.requires.room.moves

pub take-requires-clause-room : goal.take-requires-clause-room
take-requires-clause-room c = omega (arith, c.requires.room.accounts)

pub returns-clause-found : goal.returns-clause-found
returns-clause-found c = λ before m is found.
    let day = c.args.day.now in
    let n = c.args.n in
    let own = entries_at day.messages (n - 1) in
    let same = last_is before m day n (with_entries c.message.result.now own) is c.requires.last c.message.ensures in
    let repeats = subst (λ (x : Message). AreRepeats (with_one before x) c.arrive.new.self) (sym same) (c.arrive.ensures.day before own found.0) in
    found_more before m day n c.args.self.now (record { repeats = c.arrive.new.self; moves = c.arrive-2.new.self; accounts = c.take.new.self }) is c.requires.last repeats c.arrive-2.ensures c.take.ensures found

pub returns-clause-room : goal.returns-clause-room
returns-clause-room c = λ messages more room.
    let m = c.message.result.now in
    found_room_left c.args.day.now c.args.n messages more (record { sender = m.sender; id = m.id }) (accounts_of c.args.day.now c.args.n) c.args.self.now
    (record { repeats = c.arrive.new.self; moves = c.arrive-2.new.self; accounts = c.take.new.self }) c.arrive.ensures.names c.arrive.ensures.most c.arrive-2.ensures c.take.ensures room
