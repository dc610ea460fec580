-- The definitions on small numbers, and a set that shows too little.
use Rattle.std.proofs.Common.{◌≡◌, ℕ, Bool, true, false, ◌||◌, Some, None, refl, sym, subst, ⊎_elim}
use Rattle.std.specs.Prelude.{nat_eq}
use Rattle.std.proofs.lemmas.Bool.{eqb-true, or_cases}
use Rattle.scan_laws.specs.Next.{comes_by, next_of, Represents}
use Rattle.scan_laws.specs.Numbers.{before, place_in}
use Rattle.scan_laws.proofs.NextFacts.{represents-by}

-- ---- counted from 2 on: 2, 3, 4, .., 0, 1

later_is_behind : comes_by 2 3 4 ≡ false
later_is_behind = refl

itself_is_not : comes_by 2 3 3 ≡ true
itself_is_not = refl

earlier_is_not : comes_by 2 4 3 ≡ true
earlier_is_not = refl

beginning_is_behind_the_rest : comes_by 2 3 0 ≡ false
beginning_is_behind_the_rest = refl

rest_is_before_the_beginning : comes_by 2 0 3 ≡ true
rest_is_before_the_beginning = refl

beginning_in_order : (comes_by 2 0 1 ≡ false) × (comes_by 2 1 0 ≡ true)
beginning_in_order = (refl, refl)

-- ---- groups of 3, 3 and 3

nine : before (λ i. 3) 3 ≡ 9
unfolding before
nine = refl

places : (place_in (λ i. 3) 3 0 ≡ (0, 0)) × (place_in (λ i. 3) 3 5 ≡ (1, 2)) × (place_in (λ i. 3) 3 6 ≡ (2, 0))
unfolding before place_in
places = (refl, refl, refl)

-- ---- the next one

found : next_of (nat_eq 4) 2 5 ≡ Some 4
unfolding next_of
found = refl

too_far : next_of (nat_eq 4) 2 2 ≡ None
unfolding next_of
too_far = refl

-- ---- what shows too little, and what is enough

abbrev two : ℕ → Bool
two x = nat_eq x 3 || nat_eq x 4

-- from 2 on the member 4 comes after 3, so it doesn't show that 3 is ready
too_little : Represents (nat_eq 4) two 2 → ⊥
too_little r = r.none_is_passed 3 refl (λ y m. subst (λ i. comes_by 2 3 i ≡ false) (eqb-true 4 y m) refl)

-- and 3 comes by 4
enough : Represents (nat_eq 3) two 2
enough = represents-by (nat_eq 3) two 2 (λ x m. subst (λ i. two i ≡ true) (eqb-true 3 x m) refl) (λ x t. (3, refl, ⊎_elim (λ (e : nat_eq x 3 ≡ true). at x 3 e refl) (λ (e : nat_eq x 4 ≡ true). at x 4 e refl) (or_cases (nat_eq x 3) (nat_eq x 4) t)))
  where
    at : (x y : ℕ) → nat_eq x y ≡ true → comes_by 2 y 3 ≡ true → comes_by 2 x 3 ≡ true
    at x y e h = subst (λ i. comes_by 2 i 3 ≡ true) (sym (eqb-true x y e)) h
