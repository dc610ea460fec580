-- The moves of a line, one after another.
use Rattle.std.proofs.Common.{◌≡◌, ◌∙◌, ℕ, ◌+◌, ◌*◌, ◌^◌, ◌≤◌, ◌<◌, Bool, true, false, List, ◌∷◌, length, drop, get_or, ap, sym, arith, if◌then◌else◌}
use Rattle.std.specs.Prelude.{nat_eq}
use Rattle.std.proofs.lemmas.List.{drop_all, drop_more}
use Rattle.commit_journal.specs.declared.line.Move.{Move}
use Rattle.machine.specs.Telling.Balances.{credits}
use Rattle.day_facts.specs.Lists.{changed}
use Rattle.day_page.specs.declared.extents.Extent.{Extent}
use Rattle.day_page.specs.Extents.{credited_by, debited_by, lowered, marked, marked_by, raised}

next_move : (ms : List Move) (i : ℕ) (m : Move) → i < length ms → m ≡ get_or ms i m → drop i ms ≡ m ∷ drop (i + 1) ms
next_move ms i m inside at = drop_more ms i m inside ∙ ap (λ (n : Move). n ∷ drop (i + 1) ms) (sym at)

pub credit_more : (ms : List Move) (i : ℕ) (m : Move) (amount : ℕ) (xs ys : List Extent) → i < length ms → m ≡ get_or ms i m → amount ≡ m.amount → ys ≡ changed m.credit (raised amount) xs → credited_by (drop (i + 1) ms) ys ≡ credited_by (drop i ms) xs
unfolding credited_by
credit_more ms i m amount xs ys inside at is made =
    ap (credited_by (drop (i + 1) ms)) (made ∙ ap (λ (k : ℕ). changed m.credit (raised k) xs) is) ∙ sym (ap (λ (rest : List Move). credited_by rest xs) (next_move ms i m inside at))

pub debit_more : (ms : List Move) (i : ℕ) (m : Move) (amount : ℕ) (xs ys : List Extent) → i < length ms → m ≡ get_or ms i m → amount ≡ m.amount → ys ≡ changed m.debit (lowered amount) xs → debited_by (drop (i + 1) ms) ys ≡ debited_by (drop i ms) xs
unfolding debited_by
debit_more ms i m amount xs ys inside at is made =
    ap (debited_by (drop (i + 1) ms)) (made ∙ ap (λ (k : ℕ). changed m.debit (lowered k) xs) is) ∙ sym (ap (λ (rest : List Move). debited_by rest xs) (next_move ms i m inside at))

pub mark_more : (ms : List Move) (i : ℕ) (m : Move) (xs between ys : List Extent) → i < length ms → m ≡ get_or ms i m → between ≡ changed m.debit marked xs → ys ≡ changed m.credit marked between → marked_by (drop (i + 1) ms) ys ≡ marked_by (drop i ms) xs
unfolding marked_by
mark_more ms i m xs between ys inside at first second =
    ap (marked_by (drop (i + 1) ms)) (second ∙ ap (changed m.credit marked) first) ∙ sym (ap (λ (rest : List Move). marked_by rest xs) (next_move ms i m inside at))

-- with no move left
pub credits_done : (ms : List Move) (i : ℕ) (xs : List Extent) → length ms ≤ i → xs ≡ credited_by (drop i ms) xs
unfolding credited_by
credits_done ms i xs past = sym (ap (λ (rest : List Move). credited_by rest xs) (drop_all i ms past))

pub debits_done : (ms : List Move) (i : ℕ) (xs : List Extent) → length ms ≤ i → xs ≡ debited_by (drop i ms) xs
unfolding debited_by
debits_done ms i xs past = sym (ap (λ (rest : List Move). debited_by rest xs) (drop_all i ms past))

pub marks_done : (ms : List Move) (i : ℕ) (xs : List Extent) → length ms ≤ i → xs ≡ marked_by (drop i ms) xs
unfolding marked_by
marks_done ms i xs past = sym (ap (λ (rest : List Move). marked_by rest xs) (drop_all i ms past))

-- ---- none of them brings too much

at_most : (b : Bool) (amount : ℕ) → amount ≤ 10 ^ 18 → (if b then amount else 0) ≤ 10 ^ 18
at_most true amount small = small
at_most false amount small = omega arith

pub small_more : (a : ℕ) (ms : List Move) (i : ℕ) (m : Move) (amount : ℕ) → i < length ms → m ≡ get_or ms i m → amount ≡ m.amount → amount ≤ 10 ^ 18
    → credits a ms ≤ 10 ^ 18 * i + credits a (drop i ms) → credits a ms ≤ 10 ^ 18 * (i + 1) + credits a (drop (i + 1) ms)
small_more a ms i m amount inside at is small before =
    let step : credits a (drop i ms) ≡ (if nat_eq m.credit a then m.amount else 0) + credits a (drop (i + 1) ms) = ap (credits a) (next_move ms i m inside at) in
    let one : (if nat_eq m.credit a then m.amount else 0) ≤ 10 ^ 18 = at_most (nat_eq m.credit a) m.amount (omega (arith, is, small)) in
    omega (arith, step, one, before)

pub small_done : (a : ℕ) (ms : List Move) (i : ℕ) → i ≤ length ms → length ms ≤ i → credits a ms ≤ 10 ^ 18 * i + credits a (drop i ms) → credits a ms ≤ 10 ^ 18 * length ms
small_done a ms i low past so_far =
    let none : credits a (drop i ms) ≡ 0 = ap (credits a) (drop_all i ms past) in
    omega (arith, none, so_far, low)
