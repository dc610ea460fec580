-- The next member of two sets.
use Rattle.std.proofs.Common.{◌≡◌, ℕ, zero, suc, ◌<◌, ◌≤◌, Bool, true, ◌||◌, List, [], ◌∷◌, Option, Some, None, min, length, sym, subst, arith, ⊎_elim}
use Rattle.std.proofs.lemmas.Bool.{cases_lt, false≢true, or_cases, or_from, or_left, or_right}
use Rattle.batch_records.specs.DayRecord.{Day}
use Rattle.batch_records.specs.Sound.{is_sound}
use Rattle.commit_journal.specs.Line.{History}
use Rattle.number_set.specs.Members.{has}
use Rattle.number_set.specs.Next.{IsLeast, IsNext}
use Rattle.least_tree.specs.Amounts.{least}
use Rattle.scan_laws.specs.Numbers.{item_count}
use Rattle.scan_laws.proofs.Sizes.{count-few}
use Rattle.ready_items.specs.Kept.{KeepsReady, Ready, is_member}

-- ---- the less of two is the next that passes one of two tests

either_next : (f g : ℕ → Bool) (p : ℕ) (a b : Option ℕ) → IsNext f p a → IsNext g p b → IsNext (λ x. f x || g x) p (least a b)
either_next f g p None None h k = λ x low. or_from (f x) (g x) (h x low) (k x low)
either_next f g p None (Some y) h k = record { at_least = k.at_least; passes = or_right (f y) (g y) k.passes; none_before = λ x low less. or_from (f x) (g x) (h x low) (k.none_before x low less) }
either_next f g p (Some x) None h k = record { at_least = h.at_least; passes = or_left (f x) (g x) h.passes; none_before = λ z low less. or_from (f z) (g z) (h.none_before z low less) (k z low) }
either_next f g p (Some x) (Some y) h k = ⊎_elim
    (λ (l : x < y). subst (IsLeast (λ z. f z || g z) p) (min_left x y l) (record {
      at_least = h.at_least;
      passes = or_left (f x) (g x) h.passes;
      none_before = λ z low less. or_from (f z) (g z) (h.none_before z low less) (k.none_before z low (omega (arith, less, l)));
    }))
    (λ (l : y ≤ x). subst (IsLeast (λ z. f z || g z) p) (min_right x y l) (record {
      at_least = k.at_least;
      passes = or_right (f y) (g y) k.passes;
      none_before = λ z low less. or_from (f z) (g z) (h.none_before z low (omega (arith, less, l))) (k.none_before z low less);
    }))
    (cases_lt x y)
  where
    min_left : (m n : ℕ) → m < n → m ≡ min m n
    min_left m n l = omega (arith, l)

    min_right : (m n : ℕ) → n ≤ m → n ≡ min m n
    min_right m n l = omega (arith, l)

pub next_of_both : (v : Ready) (a b o : Option ℕ) → IsNext (has v.alone) v.at a → IsNext (has v.found.members) v.at b → o ≡ least a b → IsNext (is_member v) v.at o
next_of_both v a b o h k e = subst (IsNext (is_member v) v.at) (sym e) (either_next (has v.alone) (has v.found.members) v.at a b h k)

-- ---- a member is a number of an item

below : (xs : List Bool) (i : ℕ) → has xs i ≡ true → i < length xs
below [] i h = absurd (false≢true h)
below (x ∷ xs) zero h = omega arith
below (x ∷ xs) (suc i) h = let l = below xs i h in omega (arith, l)

pub member_within : (day : Day) (J : History) (v : Ready) (x : ℕ) → KeepsReady day J v → is_member v x ≡ true → x < item_count day
member_within day J v x keeps h = ⊎_elim
    (λ (a : has v.alone x ≡ true). let l = below v.alone x a in let n = keeps.fits.alone in omega (arith, l, n))
    (λ (m : has v.found.members x ≡ true). let l = below v.found.members x m in let n = keeps.fits.members.room in omega (arith, l, n))
    (or_cases (has v.alone x) (has v.found.members x) h)

pub few_members : (day : Day) → is_sound day ≡ true → (x : ℕ) → x < item_count day → x < 4294967295
few_members day sound x low = let few = count-few day sound in omega (arith, low, few)
