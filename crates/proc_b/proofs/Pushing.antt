-- The moves of a batch that is booked as a whole.
use Rattle.std.proofs.Common.{◌≡◌, ℕ, ◌+◌, true, false, List, [], ◌++◌, length, refl, sym, ap, ◌∙◌, arith, length-append}
use Rattle.std.specs.Prelude.{map}
use Rattle.std.proofs.lemmas.List.{length-map}
use Rattle.std.proofs.lemmas.List.Filters.{length-filter_both}
use Rattle.batch_records.specs.DayRecord.{Day}
use Rattle.batch_records.specs.declared.day.Entry.{Entry}
use Rattle.commit_journal.specs.declared.line.Move.{Move}
use Rattle.commit_journal.specs.Kept.{MovesInRoom}
use Rattle.rule_book.specs.Answering.{HasMoves}
use Rattle.machine.specs.Records.Messages.{entries, is_debit_entry, is_credit_entry, debit_entries, credit_entries, move_of, side}

-- the two sides have the entries of the batch
pub both_sides : (day : Day) (n : ℕ) → length (side true day n) + length (side false day n) ≡ length (entries day n)
both_sides day n = length-filter_both (is_debit_entry day n) (is_credit_entry day n) (λ e. refl) (entries day n)

-- what is pushed takes its room
pub has_moves : (f : Entry → Move) (es : List Entry) (old new : MovesInRoom) → new.moves ≡ old.moves ++ map f es → new.room + length es ≡ old.room → HasMoves old new
has_moves f es old new made room =
    let count : length new.moves ≡ length old.moves + length es = ap length made ∙ length-append old.moves (map f es) ∙ ap (λ k. length old.moves + k) (length-map es f) in
    omega arith

-- first the one side and then the other
pub whole_moves : (day first second : Day) (n : ℕ) (old half new : MovesInRoom) → first ≡ day → second ≡ day → old.moves ≡ [] →
    half.moves ≡ old.moves ++ map (move_of first) (side true first n) → new.moves ≡ half.moves ++ map (move_of second) (side false second n) →
    map (move_of day) (debit_entries day n) ++ map (move_of day) (credit_entries day n) ≡ new.moves
whole_moves day first second n old half new p q empty a b =
    let debits : half.moves ≡ map (move_of day) (side true day n) = a ∙ ap (λ x. x ++ map (move_of first) (side true first n)) empty ∙ ap (λ d. map (move_of d) (side true d n)) p in
    sym (b ∙ ap (λ x. x ++ map (move_of second) (side false second n)) debits ∙ ap (λ d. map (move_of day) (side true day n) ++ map (move_of d) (side false d n)) q)
