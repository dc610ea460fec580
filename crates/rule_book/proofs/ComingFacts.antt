-- What is found out about no messages, and about a day to which a message has come.
use Rattle.std.proofs.Common.{◌≡◌, ◌∙◌, ◌+◌, ◌*◌, ◌≤◌, ℕ, zero, suc, List, [], Option, None, Some, ap, arith, length, map, refl, subst, sym}
use Rattle.std.specs.Prelude.{slice_get, sum_by}
use Rattle.batch_records.specs.DayRecord.{Day}
use Rattle.batch_records.specs.Growing.{with_stop}
use Rattle.batch_records.specs.Numbers.{numbers}
use Rattle.batch_records.specs.RepeatsInWords.{earlier}
use Rattle.batch_records.specs.declared.day.Message.{Message}
use Rattle.rule_book.specs.Moves.{Moves, MovesInRoom, entry_moves, transfer_move}
use Rattle.rule_book.specs.Owed.{Debts}
use Rattle.rule_book.specs.Parties.{AreBefore, Listed, owner_numbers}
use Rattle.rule_book.specs.Repeated.{Repeated, name_of, repeats_of, with_one}
use Rattle.rule_book.specs.Room.{FoundHasRoom, HasRoom, TablesHaveRoom}
use Rattle.rule_book.specs.Senders.{Senders}
use Rattle.rule_book.specs.Settings.{IsFound, IsNothing, accounts_of}
use Rattle.rule_book.specs.Tables.{AreTables, AreUpTo}
use Rattle.rule_book.specs.declared.batch_tables.BatchTables.{BatchTables}
use Rattle.rule_book.specs.declared.found.Found.{Found}
use Rattle.rule_book.proofs.OldMessages.{one_longer}
use Rattle.rule_book.proofs.PartyFacts.{informed_there, none_informed}
use Rattle.rule_book.proofs.RepeatLemmas.{repeat_next, same_over}
use Rattle.rule_book.proofs.Summing.{is_there, none_of_none, nothing_owed}

-- ---- no messages

pub found_nothing : (day : Day) (found : Found) → day.messages ≡ [] → IsNothing found → IsFound day found
found_nothing day found none nothing = (
  (nothing.names ∙ ap (λ (ms : List Message). map name_of ms) (sym none), nothing.repeats ∙ ap (λ (ms : List Message). map (earlier day) (numbers ms)) (sym none)),
  (
    nothing.moves ∙ ap moves (sym none),
    nothing.accounts ∙ ap (λ (ms : List Message). map (accounts_of day) (numbers ms)) (sym none),
  ),
)
  where
    moves : List Message → Moves
    moves ms = record { transfers = map (transfer_move day) (numbers ms); rows = map (entry_moves day) (numbers ms) }

pub tables_of_nothing : (day : Day) (tables : BatchTables) (most keys_most : ℕ) → day.messages ≡ [] → tables.debts ≡ record { keys = []; sums = []; most = most }
    → tables.parties ≡ record { keys = []; numbers = owner_numbers day; most = keys_most } → AreTables day tables
tables_of_nothing day tables most keys_most none debts parties = (
  record {
    owes = λ n a h. absurd (none_of_none day n (let there = is_there day n h in omega (arith, there, count)) h);
    free = λ n a l. nothing_owed tables.debts most n a debts;
  },
  record {
    lists = λ n h. absurd (none_informed day n (let there = informed_there day n h in omega (arith, there, count)) h);
    before = subst (AreBefore (length day.messages + 1)) (sym (ap (λ (l : Listed). l.keys) parties)) (λ x h. cc);
    numbers = ap (λ (l : Listed). l.numbers) parties;
  },
)
  where
    count : length day.messages ≡ 0
    count = ap length none

pub new_found_room : (messages entries : ℕ) (found : Found) → found.repeats ≡ record { names = []; repeats = []; most = messages }
    → found.moves ≡ record { list = record { transfers = []; rows = [] }; messages = messages; entries = entries } → found.accounts ≡ record { accounts = []; most = messages } → FoundHasRoom messages entries found
new_found_room messages entries found repeats moves accounts =
    let names : length found.repeats.names ≡ 0 = ap (λ (r : Repeated). length r.names) repeats in
    let names_most : found.repeats.most ≡ messages = ap (λ (r : Repeated). r.most) repeats in
    let rows : length found.moves.list.rows ≡ 0 = ap (λ (m : MovesInRoom). length m.list.rows) moves in
    let rows_most : found.moves.messages ≡ messages = ap (λ (m : MovesInRoom). m.messages) moves in
    let items : sum_by length found.moves.list.rows ≡ 0 = ap (λ (m : MovesInRoom). sum_by length m.list.rows) moves in
    let items_most : found.moves.entries ≡ entries = ap (λ (m : MovesInRoom). m.entries) moves in
    let senders : length found.accounts.accounts ≡ 0 = ap (λ (s : Senders). length s.accounts) accounts in
    let senders_most : found.accounts.most ≡ messages = ap (λ (s : Senders). s.most) accounts in
    record {
      names = omega (arith, names, names_most);
      rows = omega (arith, rows, rows_most);
      moves = omega (arith, items, items_most);
      accounts = omega (arith, senders, senders_most);
    }

pub new_tables_room : (entries : ℕ) (owners : List ℕ) (tables : BatchTables) → tables.debts ≡ record { keys = []; sums = []; most = entries }
    → tables.parties ≡ record { keys = []; numbers = owners; most = 2 * entries } → TablesHaveRoom entries tables
new_tables_room entries owners tables debts parties =
    let owed : length tables.debts.keys ≡ 0 = ap (λ (d : Debts). length d.keys) debts in
    let owed_most : tables.debts.most ≡ entries = ap (λ (d : Debts). d.most) debts in
    let keys : length tables.parties.keys ≡ 0 = ap (λ (l : Listed). length l.keys) parties in
    let keys_most : tables.parties.most ≡ 2 * entries = ap (λ (l : Listed). l.most) parties in
    record { debts = omega (arith, owed, owed_most); keys = omega (arith, keys, keys_most) }

-- ---- what has room for more has room for less

pub found_less : (messages more fewer less : ℕ) (found : Found) → fewer ≤ messages → less ≤ more → FoundHasRoom messages more found → FoundHasRoom fewer less found
found_less messages more fewer less found a b room = record {
  names = omega (arith, a, room.names);
  rows = omega (arith, a, room.rows);
  moves = omega (arith, b, room.moves);
  accounts = omega (arith, a, room.accounts);
}

pub tables_less : (more less : ℕ) (tables : BatchTables) → less ≤ more → TablesHaveRoom more tables → TablesHaveRoom less tables
tables_less more less tables b room = record { debts = omega (arith, b, room.debts); keys = omega (arith, b, room.keys) }

-- as a caller needs it who has room for all that may come
pub room_less : (messages more fewer less : ℕ) (day : Day) (found : Found) (tables : BatchTables) → fewer ≤ messages → less ≤ more → HasRoom messages more day found tables → HasRoom fewer less day found tables
room_less messages more fewer less day found tables a b room = record {
  day_room = record { messages_fit = omega (arith, a, room.day_room.messages_fit); entries_fit = omega (arith, b, room.day_room.entries_fit) };
  found_room = found_less messages more fewer less found a b room.found_room;
  tables_room = tables_less more less tables b room.tables_room;
}

-- ---- the last message

-- of the message that has come nothing is entered yet
pub lacks_last : (before : Day) (m : Message) (day : Day) (n : ℕ) (tables : BatchTables) → day ≡ with_one before m → n ≡ length day.messages → AreTables before tables → AreUpTo day n tables
lacks_last before m day n tables is last are =
    let at : n ≡ length before.messages + 1 = last ∙ (ap (λ (d : Day). length d.messages) is ∙ one_longer before m) in
    record {
      free = λ a. are.0.free n a (omega (arith, at));
      before = subst (λ k. AreBefore k tables.parties.keys) (sym at) are.1.before;
      numbers = are.1.numbers ∙ sym (ap owner_numbers is);
    }

-- ---- a stop more

repeats_same : (day : Day) (t : ℕ) → repeats_of (with_stop t day) ≡ repeats_of day
repeats_same day t = same_over (earlier (with_stop t day)) (earlier day) 1 (length day.messages) (λ i low high. by i)
  where
    at : (j : ℕ) (o : Option Message) → slice_get day.messages j ≡ o → earlier (with_stop t day) (suc j) ≡ earlier day (suc j)
    at j None e = rw e refl
    at j (Some m) e =
        let next : j + 1 ≡ suc j = omega arith in
        ap (earlier (with_stop t day)) (sym next) ∙ (sym (repeat_next (with_stop t day) j m e) ∙ (repeat_next day j m e ∙ ap (earlier day) next))

    by : (i : ℕ) → earlier (with_stop t day) i ≡ earlier day i
    by zero = refl
    by (suc j) = at j (slice_get day.messages j) refl

pub found_with_stop : (day : Day) (t : ℕ) (found : Found) → IsFound day found → IsFound (with_stop t day) found
found_with_stop day t found is = ((is.0.0, is.0.1 ∙ sym (repeats_same day t)), is.1)

pub tables_with_stop : (day : Day) (t : ℕ) (tables : BatchTables) → AreTables day tables → AreTables (with_stop t day) tables
tables_with_stop day t tables are = (record { owes = are.0.owes; free = are.0.free }, record { lists = are.1.lists; before = are.1.before; numbers = are.1.numbers })

pub room_with_stop : (messages more : ℕ) (day : Day) (t : ℕ) (found : Found) (tables : BatchTables) → HasRoom messages more day found tables → HasRoom messages more (with_stop t day) found tables
room_with_stop messages more day t found tables room = record {
  day_room = record { messages_fit = room.day_room.messages_fit; entries_fit = room.day_room.entries_fit };
  found_room = room.found_room;
  tables_room = room.tables_room;
}
