-- What all moves did to each account, one move more.
use Rattle.std.proofs.Common.{◌≡◌, ◌∙◌, ℕ, zero, suc, ◌+◌, ◌-◌, ◌*◌, ◌^◌, ◌≤◌, ◌<◌, Bool, true, false, List, [], ◌∷◌, length, map, take, get_or, replicate, ap, sym, refl, arith, if◌then◌else◌}
use Rattle.std.specs.Prelude.{nat_eq, sum_by}
use Rattle.std.specs.List.{range_with_len}
use Rattle.std.proofs.Math.Nat.{min-eq_left}
use Rattle.std.proofs.lemmas.Bool.{eq-eqb, ne_eqb}
use Rattle.std.proofs.lemmas.List.{length-replicate}
use Rattle.std.proofs.lemmas.List.FromFn.{get_or-map-range_with_len, length-map-range_with_len}
use Rattle.commit_journal.specs.declared.line.Move.{Move}
use Rattle.day_facts.specs.Lists.{changed}
use Rattle.day_facts.proofs.Lists.{changed_map}
use Rattle.day_page.specs.Courses.{added, touch, turned_by}
use Rattle.day_page.proofs.Ranges.{sum_item}

-- before the first
zeros : (s count : ℕ) → replicate {A = ℕ} count 0 ≡ map (λ a. sum_by (touch a) []) (range_with_len s count)
zeros s zero = refl
zeros s (suc count) = ap (λ (xs : List ℕ). 0 ∷ xs) (zeros (s + 1) count)

pub none_turned : (count : ℕ) (xs : List ℕ) → xs ≡ replicate count 0 → xs ≡ turned_by [] (length xs)
none_turned count xs are =
    let many : length xs ≡ count = ap length are ∙ length-replicate count 0 in
    are ∙ zeros 1 count ∙ ap (turned_by []) (sym many)

pub many_turned : (ms : List Move) (count : ℕ) (xs : List ℕ) → xs ≡ turned_by ms count → length xs ≡ count
many_turned ms count xs are = ap length are ∙ length-map-range_with_len (λ a. sum_by (touch a) ms) 1 count

-- what was read of the account after so many
pub turned_at : (ms : List Move) (count i cents : ℕ) (xs : List ℕ) → xs ≡ turned_by ms count → i < count → cents ≡ get_or xs i cents → cents ≡ sum_by (touch (i + 1)) ms
turned_at ms count i cents xs are inside read =
    read ∙ ap (λ (ys : List ℕ). get_or ys i cents) are ∙ get_or-map-range_with_len (λ a. sum_by (touch a) ms) 1 count i (i + 1) cents inside (omega arith)

-- ---- one account

-- what of an amount goes to account a, where account n gets it
abbrev share : ℕ → ℕ → ℕ → ℕ
share n amount a = if nat_eq n a then amount else 0

at_most : (b : Bool) (amount : ℕ) → (if b then amount else 0) ≤ amount
at_most true amount = omega arith
at_most false amount = omega arith

touched : (a : ℕ) (m : Move) (amount : ℕ) → amount ≡ m.amount → share m.debit amount a + share m.credit amount a ≡ touch a m
touched a m amount is = ap (λ k. share m.debit k a + share m.credit k a) is

sum_step : (a : ℕ) (ms : List Move) (i : ℕ) (m : Move) (amount : ℕ) → i < length ms → m ≡ get_or ms i m → amount ≡ m.amount
    → sum_by (touch a) (take i ms) + share m.debit amount a + share m.credit amount a ≡ sum_by (touch a) (take (i + 1) ms)
sum_step a ms i m amount inside at is =
    let sum = sum_by (touch a) (take i ms) in
    let part = share m.debit amount a + share m.credit amount a in
    let e : sum + share m.debit amount a + share m.credit amount a ≡ sum + part = omega arith in
    sum_item (touch a) ms i m sum part (sum + share m.debit amount a + share m.credit amount a) inside at refl (touched a m amount is) e

-- no sum is above what so many moves can bring and take
pub small_more : (a : ℕ) (ms : List Move) (i : ℕ) (m : Move) (amount : ℕ) → i < length ms → m ≡ get_or ms i m → amount ≡ m.amount → amount ≤ 10 ^ 18
    → sum_by (touch a) (take i ms) ≤ 2 * 10 ^ 18 * i → sum_by (touch a) (take (i + 1) ms) ≤ 2 * 10 ^ 18 * (i + 1)
small_more a ms i m amount inside at is small before =
    let step = sum_step a ms i m amount inside at is in
    let gone = at_most (nat_eq m.debit a) amount in
    let came = at_most (nat_eq m.credit a) amount in
    omega (arith, step, gone, came, small, before)

-- ---- all of them

one_added : (f : ℕ → ℕ) (n amount count : ℕ) → f n + amount ≤ 2 ^ 128 - 1
    → changed n (added amount) (map f (range_with_len 1 count)) ≡ map (λ a. f a + share n amount a) (range_with_len 1 count)
one_added f n amount count small =
    changed_map (added amount) f (λ a. f a + share n amount a) n count
    (min-eq_left small ∙ ap (λ (b : Bool). f n + (if b then amount else 0)) (sym (eq-eqb n n refl)))
    (λ j other. (let e : f j ≡ f j + 0 = omega arith in e) ∙ ap (λ (b : Bool). f j + (if b then amount else 0)) (sym (ne_eqb n j (λ same. other (sym same)))))

pub turned_more : (ms : List Move) (i : ℕ) (m : Move) (amount count : ℕ) (old between new : List ℕ) → i < length ms → m ≡ get_or ms i m → amount ≡ m.amount → amount ≤ 10 ^ 18 → i ≤ 2 ^ 64
    → ((a : ℕ) → sum_by (touch a) (take i ms) ≤ 2 * 10 ^ 18 * i)
    → old ≡ turned_by (take i ms) count → between ≡ changed m.debit (added amount) old → new ≡ changed m.credit (added amount) between
    → new ≡ turned_by (take (i + 1) ms) count
turned_more ms i m amount count old between new inside at is small few sums known first second =
    let before : ℕ → ℕ = λ a. sum_by (touch a) (take i ms) in
    let taken : ℕ → ℕ = λ a. before a + share m.debit amount a in
    let debited = sums m.debit in
    let credited = sums m.credit in
    let most = at_most (nat_eq m.debit m.credit) amount in
    second
    ∙ ap (changed m.credit (added amount)) (first ∙ ap (changed m.debit (added amount)) known ∙ one_added before m.debit amount count (omega (arith, debited, small, few)))
    ∙ one_added taken m.credit amount count (omega (arith, credited, most, small, few))
    ∙ (λ j. map (λ a. sum_step a ms i m amount inside at is j) (range_with_len 1 count))
