-- The debit entries of a batch that are short, one by one, by their moves; and all of them.
use Rattle.std.proofs.Common.{◌≡◌, ℕ, ◌+◌, ◌<◌, ◌≤◌, Bool, ◌&&◌, List, [], ◌∷◌, ◌++◌, Option, length, take, get_or, refl, sym, ap, ◌∙◌, cond, if◌then◌else◌, arith}
use Rattle.std.specs.Prelude.{filter, map, sum_by}
use Rattle.std.proofs.lemmas.List.{take_all, length-map, map-append}
use Rattle.std.proofs.lemmas.List.Filters.{length-filter_both}
use Rattle.std.proofs.lemmas.List.Elements.{filter_more}
use Rattle.std.proofs.lemmas.List.Sums.{sum_by-append}
use Rattle.batch_records.specs.DayRecord.{Day}
use Rattle.batch_records.specs.declared.day.Entry.{Entry}
use Rattle.commit_journal.specs.declared.line.Move.{Move}
use Rattle.commit_journal.specs.Kept.{MovesInRoom}
use Rattle.commit_journal.specs.Line.{History}
use Rattle.machine.specs.Stages.Intake.{amount_of}
use Rattle.machine.specs.Records.Messages.{entries, debit_account, debit_entries, credit_entries, is_debit_entry, is_credit_entry, move_of, technical_of}
use Rattle.machine.specs.Making.Lines.{covered_debit, is_short_debtor}
use Rattle.rule_book.specs.Answering.{HasMoves}
use Rattle.rule_book.specs.Moves.{entry_moves, goes_to, moved_amount}
use Rattle.rule_book.proofs.Debits.{mapped_one, sum_of_one}
use Rattle.rule_book.proofs.MoveFacts.{filter_moves, map_moves, pays_is, sum_moves}
use Rattle.rule_book.proofs.Summing.{filtered_twice}
use Rattle.guarantee_fund.specs.Covering.{covered_by}

-- ---- on short accounts

abbrev is_short_debit : Day → History → ℕ → Option ℕ → Move → Bool
is_short_debit day J n t m = goes_to t m && is_short_debtor day J n m.debit

-- the sum of those of the first i moves
abbrev pub short_sum : Day → History → ℕ → Option ℕ → List Move → ℕ → ℕ
short_sum day J n t ms i = sum_by moved_amount (filter (λ (m : Move). goes_to t m && is_short_debtor day J n m.debit) (take i ms))

pub short_sum-next : (day : Day) (J : History) (n : ℕ) (t : Option ℕ) (ms : List Move) (i : ℕ) (m : Move) → i < length ms → m ≡ get_or ms i m →
    short_sum day J n t ms (i + 1) ≡ short_sum day J n t ms i + (if goes_to t m && is_short_debtor day J n m.debit then m.amount else 0)
short_sum-next day J n t ms i m low is =
    let test : Move → Bool = is_short_debit day J n t in
    let same : cond (test (get_or ms i m)) (get_or ms i m ∷ []) [] ≡ cond (test m) (m ∷ []) [] = ap (λ (x : Move). cond (test x) (x ∷ []) []) (sym is) in
    ap (sum_by moved_amount) (filter_more test ms i m low ∙ ap (λ (ys : List Move). filter test (take i ms) ++ ys) same)
    ∙ sum_by-append moved_amount (filter test (take i ms)) (cond (test m) (m ∷ []) [])
    ∙ ap (λ (s : ℕ). sum_by moved_amount (filter test (take i ms)) + s) (sum_of_one (test m) m)

short_is : (day : Day) (J : History) (n : ℕ) (e : Entry) → is_short_debit day J n (technical_of day n) (move_of day e) ≡ (is_debit_entry day n e && is_short_debtor day J n (debit_account day e))
short_is day J n e = ap (λ b. b && is_short_debtor day J n (debit_account day e)) (pays_is day n e)

pub short_sum-all : (day : Day) (J : History) (n : ℕ) (t : Option ℕ) (ms : List Move) (i : ℕ) → ms ≡ entry_moves day n → t ≡ technical_of day n → i ≡ length ms →
    short_sum day J n t ms i ≡ sum_by amount_of (filter (λ (e : Entry). is_short_debtor day J n (debit_account day e)) (debit_entries day n))
short_sum-all day J n t ms i listed own e =
    let short : Entry → Bool = λ e. is_debit_entry day n e && is_short_debtor day J n (debit_account day e) in
    ap (λ (xs : List Move). sum_by moved_amount (filter (is_short_debit day J n t) xs)) (take_all i ms (omega (arith, e)))
    ∙ (λ j. sum_by moved_amount (filter (is_short_debit day J n (own j)) (listed j)))
    ∙ ap (sum_by moved_amount) (filter_moves (move_of day) short (is_short_debit day J n (technical_of day n)) (short_is day J n) (entries day n))
    ∙ sum_moves (move_of day) moved_amount (filter short (entries day n))
    ∙ ap (sum_by amount_of) (filtered_twice (λ (e : Entry). is_short_debtor day J n (debit_account day e)) (is_debit_entry day n) (entries day n))

-- ---- all of them

pub side-next : (f : Move → Move) (d : Move → Bool) (ms : List Move) (i : ℕ) (m : Move) → i < length ms → m ≡ get_or ms i m →
    map f (filter d (take (i + 1) ms)) ≡ map f (filter d (take i ms)) ++ (if d m then f m ∷ [] else [])
side-next f d ms i m low is =
    let same : cond (d (get_or ms i m)) (get_or ms i m ∷ []) [] ≡ cond (d m) (m ∷ []) [] = ap (λ (x : Move). cond (d x) (x ∷ []) []) (sym is) in
    ap (map f) (filter_more d ms i m low ∙ ap (λ (ys : List Move). filter d (take i ms) ++ ys) same)
    ∙ map-append f (filter d (take i ms)) (cond (d m) (m ∷ []) [])
    ∙ ap (λ (xs : List Move). map f (filter d (take i ms)) ++ xs) (mapped_one f (d m) m)

pub side-all : (day : Day) (J : History) (n : ℕ) (t : Option ℕ) (ms : List Move) (i : ℕ) → ms ≡ entry_moves day n → t ≡ technical_of day n → i ≡ length ms →
    map (covered_by day J n) (filter (goes_to t) (take i ms)) ≡ map (covered_debit day J n) (debit_entries day n)
side-all day J n t ms i listed own e =
    ap (λ (xs : List Move). map (covered_by day J n) (filter (goes_to t) xs)) (take_all i ms (omega (arith, e)))
    ∙ (λ j. map (covered_by day J n) (filter (goes_to (own j)) (listed j)))
    ∙ ap (map (covered_by day J n)) (filter_moves (move_of day) (is_debit_entry day n) (goes_to (technical_of day n)) (pays_is day n) (entries day n))
    ∙ map_moves (move_of day) (covered_by day J n) (debit_entries day n)

-- the room that the debit entries leave is enough for the credit entries
pub room-left : (f : Entry → Move) (day : Day) (n : ℕ) (old new : MovesInRoom) → length (entries day n) ≤ old.room → old.moves ≡ [] → new.moves ≡ map f (debit_entries day n) → HasMoves old new → length (credit_entries day n) ≤ new.room
room-left f day n old new room empty is has =
    let both : length (debit_entries day n) + length (credit_entries day n) ≡ length (entries day n) = length-filter_both (is_debit_entry day n) (is_credit_entry day n) (λ e. refl) (entries day n) in
    let pushed : length new.moves ≡ length (debit_entries day n) = ap length is ∙ length-map (debit_entries day n) f in
    let none : length old.moves ≡ 0 = ap length empty in
    omega (arith, both, pushed, none, room, has)
