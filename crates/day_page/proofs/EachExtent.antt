-- Changes of numbered items, all at once.
use Rattle.std.proofs.Common.{◌≡◌, ◌∙◌, ℕ, zero, suc, ◌+◌, ◌≤◌, List, [], ◌∷◌, ap, sym, refl, arith, map, if◌then◌else◌}
use Rattle.std.specs.List.{range_with_len}
use Rattle.std.proofs.lemmas.Bool.{eq-eqb, ne_eqb}
use Rattle.commit_journal.specs.declared.line.Move.{Move}
use Rattle.day_facts.specs.Lists.{change_at, changed}
use Rattle.day_page.specs.declared.extents.Extent.{Extent}
use Rattle.day_page.specs.Extents.{credited_by, debited_by, lowered, marked, marked_by, moved_by, raised}
use Rattle.day_page.proofs.MovedOne.{at_account, fall, rise, tick}

-- item k, k + 1 and so on of a list, each changed by its number
abbrev pub each : (ℕ → Extent → Extent) → ℕ → List Extent → List Extent
each f k [] = []
each f k (x ∷ xs) = f k x ∷ each f (k + 1) xs

each_id : (f : ℕ → Extent → Extent) (k : ℕ) (xs : List Extent) → ((a : ℕ) (x : Extent) → k ≤ a → f a x ≡ x) → each f k xs ≡ xs
each_id f k [] h = refl
each_id f k (x ∷ xs) h = λ i. h k x (omega arith) i ∷ each_id f (k + 1) xs (λ a y l. h a y (omega (arith, l))) i

each_each : (f g : ℕ → Extent → Extent) (k : ℕ) (xs : List Extent) → each g k (each f k xs) ≡ each (λ a x. g a (f a x)) k xs
each_each f g k [] = refl
each_each f g k (x ∷ xs) = ap (λ ys. g k (f k x) ∷ ys) (each_each f g (k + 1) xs)

each_map : (f : ℕ → Extent → Extent) (h : ℕ → Extent) (k n : ℕ) → each f k (map h (range_with_len k n)) ≡ map (λ a. f a (h a)) (range_with_len k n)
each_map f h k zero = refl
each_map f h k (suc n) = ap (λ ys. f k (h k) ∷ ys) (each_map f h (k + 1) n)

-- one item is changed
one_each : (g : Extent → Extent) (i k : ℕ) (xs : List Extent) → change_at i g xs ≡ each (at_account (k + i) g) k xs
one_each g i k [] = refl
one_each g zero k (x ∷ xs) =
    let at : k + 0 ≡ k = omega arith in
    λ j. (if sym (eq-eqb (k + 0) k at) j then g x else x) ∷ sym (each_id (at_account (k + 0) g) (k + 1) xs (λ a y l. ap (λ b. if b then g y else y) (ne_eqb (k + 0) a (λ e. omega (arith, e, l))))) j
one_each g (suc i) k (x ∷ xs) =
    let next : k + 1 + i ≡ k + suc i = omega arith in
    λ j. (if sym (ne_eqb (k + suc i) k (λ e. omega (arith, e))) j then g x else x) ∷ (one_each g i (k + 1) xs ∙ ap (λ n. each (at_account n g) (k + 1) xs) next) j

changed_each : (g : Extent → Extent) (n : ℕ) (xs : List Extent) → changed n g xs ≡ each (at_account n g) 1 xs
changed_each g zero xs = sym (each_id (at_account 0 g) 1 xs (λ a y l. ap (λ b. if b then g y else y) (ne_eqb 0 a (λ e. omega (arith, e, l)))))
changed_each g (suc i) xs = one_each g i 1 xs ∙ (let e : 1 + i ≡ suc i = omega arith in ap (λ n. each (at_account n g) 1 xs) e)

-- ---- the moves of a line

credited_each : (ms : List Move) (xs : List Extent) → credited_by ms xs ≡ each (rise ms) 1 xs
unfolding credited_by rise
credited_each [] xs = sym (each_id (λ a x. x) 1 xs (λ a x l. refl))
credited_each (m ∷ ms) xs = ap (credited_by ms) (changed_each (raised m.amount) m.credit xs) ∙ credited_each ms (each (at_account m.credit (raised m.amount)) 1 xs) ∙ each_each (at_account m.credit (raised m.amount)) (rise ms) 1 xs

debited_each : (ms : List Move) (xs : List Extent) → debited_by ms xs ≡ each (fall ms) 1 xs
unfolding debited_by fall
debited_each [] xs = sym (each_id (λ a x. x) 1 xs (λ a x l. refl))
debited_each (m ∷ ms) xs = ap (debited_by ms) (changed_each (lowered m.amount) m.debit xs) ∙ debited_each ms (each (at_account m.debit (lowered m.amount)) 1 xs) ∙ each_each (at_account m.debit (lowered m.amount)) (fall ms) 1 xs

marked_each : (ms : List Move) (xs : List Extent) → marked_by ms xs ≡ each (tick ms) 1 xs
unfolding marked_by tick
marked_each [] xs = sym (each_id (λ a x. x) 1 xs (λ a x l. refl))
marked_each (m ∷ ms) xs =
    ap (marked_by ms) (ap (changed m.credit marked) (changed_each marked m.debit xs) ∙ changed_each marked m.credit (each (at_account m.debit marked) 1 xs) ∙ each_each (at_account m.debit marked) (at_account m.credit marked) 1 xs)
    ∙ marked_each ms (each (λ a x. at_account m.credit marked a (at_account m.debit marked a x)) 1 xs)
    ∙ each_each (λ a x. at_account m.credit marked a (at_account m.debit marked a x)) (tick ms) 1 xs

pub moved_each : (h : ℕ → Extent) (n : ℕ) (ms : List Move) → moved_by ms (map h (range_with_len 1 n)) ≡ map (λ a. tick ms a (fall ms a (rise ms a (h a)))) (range_with_len 1 n)
moved_each h n ms =
    ap (λ xs. marked_by ms (debited_by ms xs)) (credited_each ms (map h (range_with_len 1 n)) ∙ each_map (rise ms) h 1 n)
    ∙ ap (marked_by ms) (debited_each ms (map (λ a. rise ms a (h a)) (range_with_len 1 n)) ∙ each_map (fall ms) (λ a. rise ms a (h a)) 1 n)
    ∙ marked_each ms (map (λ a. fall ms a (rise ms a (h a))) (range_with_len 1 n)) ∙ each_map (tick ms) (λ a. fall ms a (rise ms a (h a))) 1 n
