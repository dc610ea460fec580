-- Numbers that rise, and the first of them that fits.
use Rattle.std.proofs.Common.{◌≡◌, ℕ, ◌+◌, ◌<◌, ◌≤◌, List, [], ◌∷◌, ◌++◌, Option, Some, None, length, refl, sym, subst, ap, arith, ◌⊎◌, ⊎_elim}
use Rattle.std.specs.Prelude.{slice_index}
use Rattle.std.specs.List.Sorted.{IsStrictlyIncreasing}
use Rattle.std.proofs.lemmas.Bool.{cases_lt, cases_order}
use Rattle.std.proofs.lemmas.List.{get_or_append_left, get_or_push, length-append}
use Rattle.std.proofs.lemmas.Map.Keys.{below_from_sorted, sorted_from_strictly_increasing}
use Rattle.number_set.specs.Next.{IsNext}
use Rattle.least_tree.specs.Amounts.{fits_at}
use Rattle.amount_forest.specs.Places.{IsPlace}
use Rattle.ready_items.specs.Normals.{IsFirstFit}

-- ---- numbers that rise

module _ (xs : List ℕ) (up : IsStrictlyIncreasing xs) where
  below : (i j : ℕ) → i < j → j < length xs → slice_index xs i < slice_index xs j
  below i j l w = below_from_sorted xs i j 0 (sorted_from_strictly_increasing xs up) l w

  pub rising_place : (i j : ℕ) → i < length xs → slice_index xs i < slice_index xs j → i < j
  rising_place i j w l = ⊎_elim
      (λ (e : i ≡ j). let q : slice_index xs i ≡ slice_index xs j = ap (slice_index xs) e in absurd (omega (arith, l, q)))
      (λ (r : (i < j) ⊎ (j < i)). ⊎_elim (λ (m : i < j). m) (λ (m : j < i). let b = below j i m w in absurd (omega (arith, l, b))) r)
      (cases_order i j)

  pub one_place : (i j : ℕ) → i < length xs → j < length xs → slice_index xs i ≡ slice_index xs j → i ≡ j
  one_place i j v w e = ⊎_elim
      (λ (q : i ≡ j). q)
      (λ (r : (i < j) ⊎ (j < i)). ⊎_elim
      (λ (m : i < j). let b = below i j m w in absurd (omega (arith, e, b)))
      (λ (m : j < i). let b = below j i m v in absurd (omega (arith, e, b))) r)
      (cases_order i j)

-- one more, above all of them
pub rise_more : (xs : List ℕ) (y : ℕ) → IsStrictlyIncreasing xs → ((j : ℕ) → j < length xs → slice_index xs j < y) → IsStrictlyIncreasing (xs ++ y ∷ [])
rise_more xs y up above k w =
    let n : length (xs ++ y ∷ []) ≡ length xs + 1 = length-append xs (y ∷ []) in
    let inner : k < length xs = omega (arith, n, w) in
    let here : slice_index (xs ++ y ∷ []) k ≡ slice_index xs k = get_or_append_left xs (y ∷ []) 0 k inner in
    ⊎_elim
    (λ (l : k + 1 < length xs).
    let there : slice_index (xs ++ y ∷ []) (k + 1) ≡ slice_index xs (k + 1) = get_or_append_left xs (y ∷ []) 0 (k + 1) l in
    let rise = up k l in
    omega (arith, here, there, rise))
    (λ (l : length xs ≤ k + 1).
    let there : slice_index (xs ++ y ∷ []) (k + 1) ≡ y = get_or_push xs y 0 (k + 1) (omega (arith, inner, l)) in
    let rise = above k inner in
    omega (arith, here, there, rise))
    (cases_lt (k + 1) (length xs))

-- ---- the first one that fits

module _ (ns : List ℕ) (amounts : List (Option ℕ)) (from most i : ℕ) (placed : IsStrictlyIncreasing ns → IsPlace ns from i) (up : IsStrictlyIncreasing ns) (size : length amounts ≡ length ns) where
  place : IsPlace ns from i
  place = placed up

  at_or_behind : (q : ℕ) → from ≤ slice_index ns q → i ≤ q
  at_or_behind q l = ⊎_elim (λ (m : q < i). let less = place.less q m in absurd (omega (arith, less, l))) (λ (m : i ≤ q). m) (cases_lt q i)

  pub fit_some : (q k : ℕ) → q < length amounts → IsNext (fits_at amounts most) i (Some q) → k ≡ slice_index ns q → IsFirstFit ns amounts from most (Some k)
  fit_some q k w next e = subst (λ (m : ℕ). IsFirstFit ns amounts from most (Some m)) (sym e) (record {
    place = q;
    inside = inside;
    is = refl;
    low = place.others q next.at_least inside;
    fits = next.passes;
    none_before = λ r x low less. next.none_before r (at_or_behind r low) (rising_place ns up r q x less);
  })
    where
      inside : q < length ns
      inside = omega (arith, w, size)

  pub fit_none : IsNext (fits_at amounts most) i None → IsFirstFit ns amounts from most None
  fit_none next q w low = next q (at_or_behind q low)
