-- Where a number stands among those of a list.
use Rattle.std.proofs.Common.{◌≡◌, ◌∙◌, ℕ, zero, suc, ◌+◌, ◌-◌, ◌<◌, ◌≤◌, List, length, refl, sym, ap, subst, arith}
use Rattle.std.specs.Prelude.{slice_index}
use Rattle.std.specs.List.Sorted.{IsStrictlyIncreasing}
use Rattle.amount_forest.specs.declared.node.Entry.{Entry}
use Rattle.amount_forest.specs.declared.node.Link.{Link}
use Rattle.amount_forest.specs.Lists.{amounts_of, numbers_of}
use Rattle.amount_forest.specs.Nodes.{IsEnd, IsLinked, LeadsTo, list_of, number_of, place_of, prev_of}
use Rattle.amount_forest.specs.Places.{IsNoneEarlier, IsPlace}
use Rattle.amount_forest.proofs.ListLemmas.{rank_full, rank_parts}
use Rattle.amount_forest.proofs.NodeLemmas.{place_within}
use Rattle.amount_forest.proofs.SetLemmas.{number_found}

-- ---- a place by the two numbers beside it

rises : (xs : List ℕ) → IsStrictlyIncreasing xs → (j d : ℕ) → j + d < length xs → slice_index xs j ≤ slice_index xs (j + d)
rises xs up j zero within = let e : j + zero ≡ j = omega arith in subst (λ (m : ℕ). slice_index xs j ≤ slice_index xs m) (sym e) (omega arith)
rises xs up j (suc d) within =
    let before = rises xs up j d (omega (arith, within)) in
    let next = up (j + d) (omega (arith, within)) in
    let e : j + d + 1 ≡ j + suc d = omega arith in
    subst (λ (m : ℕ). slice_index xs j ≤ slice_index xs m) e (omega (arith, before, next))

place_beside : (xs : List ℕ) (k i : ℕ) → IsStrictlyIncreasing xs → i ≤ length xs → (0 < i → slice_index xs (i - 1) < k) → (i < length xs → k ≤ slice_index xs i) → IsPlace xs k i
place_beside xs k i up within before here = record {
  within = within;
  less = λ j l.
      let at : j + (i - 1 - j) ≡ i - 1 = omega (arith, l) in
      let rise = subst (λ (m : ℕ). slice_index xs j ≤ slice_index xs m) at (rises xs up j (i - 1 - j) (omega (arith, l, within))) in
      let last = before (omega (arith, l)) in
      omega (arith, rise, last);
  others = λ j l w.
      let at : i + (j - i) ≡ j = omega (arith, l) in
      let rise = subst (λ (m : ℕ). slice_index xs i ≤ slice_index xs m) at (rises xs up i (j - i) (omega (arith, l, w))) in
      let first = here (omega (arith, l, w)) in
      omega (arith, rise, first);
}

-- no number is less than 0
pub zero_place : (xs : List ℕ) → IsPlace xs 0 0
zero_place xs = record { within = omega arith; less = λ j l. absurd (omega (arith, l)); others = λ j l w. omega arith }

pub empty_place : (xs : List ℕ) (k : ℕ) → length xs ≡ 0 → IsPlace xs k 0
empty_place xs k none = record { within = omega arith; less = λ j l. absurd (omega (arith, l)); others = λ j l w. absurd (omega (arith, none, w)) }

pub number_count : (es : List Entry) (list : ℕ) → length (numbers_of list es) ≡ length (amounts_of list es)
number_count es list = sym (rank_parts (λ e. e.number) list es) ∙ rank_full list es

-- ---- by the nodes

module _ (es : List Entry) (ks : List Link) (i number : ℕ) (linked : IsLinked es ks) (within : i < length es) where
  abbrev ns : List ℕ
  ns = numbers_of (list_of es i) es

  same_count : length ns ≡ length (amounts_of (list_of es i) es)
  same_count = number_count es (list_of es i)

  inner : place_of ks i < length ns
  inner = let w = place_within es ks i linked within in let n = same_count in omega (arith, w, n)

  own_number : slice_index ns (place_of ks i) ≡ number_of es i
  own_number = sym (number_found es ks i (list_of es i) (place_of ks i) linked within refl refl)

  -- the last number of the list is less
  pub past_place : IsEnd es ks (list_of es i) i → number_of es i < number → (p : ℕ) → p ≡ place_of ks i + 1 → IsStrictlyIncreasing ns → IsPlace ns number p
  past_place end less p is up =
      let last = end.last in
      let n = same_count in
      let own = own_number in
      place_beside ns number p up (omega (arith, is, last, n))
      (λ some. let at : p - 1 ≡ place_of ks i = omega (arith, is) in (let there : slice_index ns (p - 1) ≡ number_of es i = ap (slice_index ns) at ∙ own in omega (arith, there, less)))
      (λ w. absurd (omega (arith, is, last, n, w)))

  -- its own number is no less, and the one before is
  pub own_place : number ≤ number_of es i → IsNoneEarlier es ks i number → (p : ℕ) → p ≡ place_of ks i → IsStrictlyIncreasing ns → IsPlace ns number p
  own_place no_less none p is up =
      let w = inner in
      let own = own_number in
      place_beside ns number p up (omega (arith, is, w))
      (λ some. before_it (omega (arith, some, is)))
      (λ v. let there : slice_index ns p ≡ number_of es i = ap (slice_index ns) is ∙ own in omega (arith, there, no_less))
    where
      before_it : 0 < place_of ks i → slice_index ns (p - 1) < number
      before_it some =
          let leads : LeadsTo es ks i (prev_of ks i) (place_of ks i) = linked.prev i within some in
          let early = leads.earlier in
          let next = leads.next in
          let at : place_of ks (prev_of ks i) ≡ p - 1 = omega (arith, is, next) in
          let there : number_of es (prev_of ks i) ≡ slice_index ns (p - 1) = number_found es ks (prev_of ks i) (list_of es i) (p - 1) linked (omega (arith, early, within)) leads.same_list at in
          let less = none.before some in
          omega (arith, there, less)
