-- The room that is left after a message has come.
use Rattle.std.proofs.Common.{◌≡◌, ◌∙◌, ◌+◌, ◌*◌, ◌≤◌, ℕ, List, [], ◌∷◌, ◌++◌, ap, arith, false, length, subst, sym, true}
use Rattle.std.specs.Prelude.{nat_eq, sum_by}
use Rattle.std.proofs.lemmas.List.{length-map, length_push}
use Rattle.std.proofs.lemmas.List.Sums.{sum_by-append, sum_by-cons}
use Rattle.batch_records.specs.DayRecord.{Day}
use Rattle.batch_records.specs.declared.day.Message.{Message}
use Rattle.commit_journal.specs.declared.line.Move.{Move}
use Rattle.machine.specs.Making.Lines.{gross}
use Rattle.machine.specs.Records.Messages.{entries, is_b, move_of, sort_of}
use Rattle.message_names.specs.Names.{MessageName}
use Rattle.rule_book.specs.Moves.{MovesInRoom, entry_moves, with_moves}
use Rattle.rule_book.specs.Owed.{owed}
use Rattle.rule_book.specs.Parties.{Arrived}
use Rattle.rule_book.specs.Repeated.{AreRepeats, with_one}
use Rattle.rule_book.specs.Room.{FoundHasRoom, TablesHaveRoom}
use Rattle.rule_book.specs.Senders.{Senders, with_sender}
use Rattle.rule_book.specs.Settings.{IsFound, accounts_of}
use Rattle.rule_book.specs.Tables.{AreTables}
use Rattle.rule_book.specs.declared.batch_tables.BatchTables.{BatchTables}
use Rattle.rule_book.specs.declared.found.Found.{Found}
use Rattle.rule_book.specs.declared.system_accounts.SystemAccounts.{SystemAccounts}
use Rattle.rule_book.proofs.OldMessages.{debts_more, moves_more, one_longer, parties_more, senders_more}

pub found_room_left : (day : Day) (n messages more : ℕ) (name : MessageName) (accounts : SystemAccounts) (old new : Found) → new.repeats.names ≡ old.repeats.names ++ name ∷ [] → new.repeats.most ≡ old.repeats.most
    → new.moves ≡ with_moves day n old.moves → new.accounts ≡ with_sender accounts old.accounts → FoundHasRoom (messages + 1) (more + length (entries day n)) old → FoundHasRoom messages more new
found_room_left day n messages more name accounts old new names most moves senders room =
    let names_long : length new.repeats.names ≡ length old.repeats.names + 1 = ap length names ∙ length_push old.repeats.names name in
    let rows_long : length new.moves.list.rows ≡ length old.moves.list.rows + 1 = ap (λ (x : MovesInRoom). length x.list.rows) moves ∙ length_push old.moves.list.rows (entry_moves day n) in
    let rows_most = ap (λ (x : MovesInRoom). x.messages) moves in
    let items_most = ap (λ (x : MovesInRoom). x.entries) moves in
    let one = sum_by-cons (λ (row : List Move). length row) (entry_moves day n) [] in
    let all = sum_by-append (λ (row : List Move). length row) old.moves.list.rows (entry_moves day n ∷ []) in
    let size = length-map (entries day n) (move_of day) in
    let items : sum_by length new.moves.list.rows ≡ sum_by length old.moves.list.rows + length (entries day n) =
    ap (λ (x : MovesInRoom). sum_by (λ (row : List Move). length row) x.list.rows) moves ∙ omega (arith, one, all, size) in
    let accounts_long : length new.accounts.accounts ≡ length old.accounts.accounts + 1 = ap (λ (x : Senders). length x.accounts) senders ∙ length_push old.accounts.accounts accounts in
    let accounts_most = ap (λ (x : Senders). x.most) senders in
    record {
      names = omega (arith, room.names, names_long, most);
      rows = omega (arith, room.rows, rows_long, rows_most);
      moves = omega (arith, room.moves, items, items_most);
      accounts = omega (arith, room.accounts, accounts_long, accounts_most);
    }

-- what is found out of one message more
pub found_more : (before : Day) (m : Message) (day : Day) (n : ℕ) (old new : Found) → day ≡ with_one before m → n ≡ length day.messages → AreRepeats (with_one before m) new.repeats
    → new.moves ≡ with_moves day n old.moves → new.accounts ≡ with_sender (accounts_of day n) old.accounts → IsFound before old → IsFound day new
found_more before m day n old new is last repeats moves senders found =
    let at : n ≡ length before.messages + 1 = last ∙ (ap (λ (d : Day). length d.messages) is ∙ one_longer before m) in
    subst (λ d. IsFound d new) (sym is) (
      repeats,
      (
        moves_more before m old.moves new.moves found.1.0 (moves ∙ (λ i. with_moves (is i) (at i) old.moves)),
        senders_more before m old.accounts new.accounts found.1.1 (senders ∙ (λ i. with_sender (accounts_of (is i) (at i)) old.accounts)),
      ),
    )

pub tables_room_left : (more size : ℕ) (old new : BatchTables) → length new.debts.keys ≤ length old.debts.keys + size → new.debts.most ≡ old.debts.most → length new.parties.keys ≤ length old.parties.keys + 2 * size → new.parties.most ≡ old.parties.most
    → TablesHaveRoom (more + size) old → TablesHaveRoom more new
tables_room_left more size old new few most keys keys_most room = record {
  debts = omega (arith, room.debts, few, most);
  keys = omega (arith, room.keys, keys, keys_most);
}

pub tables_more : (before : Day) (m : Message) (day : Day) (n : ℕ) (old new : BatchTables) → day ≡ with_one before m → n ≡ length day.messages
    → (is_b (sort_of day n) ≡ true → (a : ℕ) → owed new.debts n a ≡ gross day n a) → ((k a : ℕ) → nat_eq n k ≡ false → owed new.debts k a ≡ owed old.debts k a)
    → Arrived day n old.parties.keys new.parties.keys → new.parties.numbers ≡ old.parties.numbers → AreTables before old → AreTables day new
tables_more before m day n old new is last own others come numbers are =
    let at : n ≡ length before.messages + 1 = last ∙ (ap (λ (d : Day). length d.messages) is ∙ one_longer before m) in
    subst (λ d. AreTables d new) (sym is) (
      debts_more before m old.debts new.debts n at are.0 (subst (λ d. is_b (sort_of d n) ≡ true → (a : ℕ) → owed new.debts n a ≡ gross d n a) is own) others,
      parties_more before m old.parties new.parties n at are.1 (subst (λ d. Arrived d n old.parties.keys new.parties.keys) is come) numbers,
    )
