-- Searches of the records, one record further.
use Rattle.std.proofs.Common.{◌≡◌, ℕ, ◌+◌, ◌<◌, Bool, true, false, cond, List, [], ◌∷◌, ◌++◌, length, take, drop, get_or, Option, None, Some, refl, ap, ◌∙◌, sym, arith}
use Rattle.std.proofs.lemmas.List.{take_more, length-take-le, take-append-drop}
use Rattle.std.specs.List.{position_from}
use Rattle.std.specs.Option.{option_or}

module _ {X : Type 0} (test : X → Bool) where
  -- a search of more items finds what it found before, or what is found among the others
  pub position_from-append : (i n : ℕ) (xs ys : List X) → i + length xs ≡ n
      → position_from test i (xs ++ ys) ≡ option_or (position_from test i xs) (position_from test n ys)
  position_from-append i n [] ys e = let same : i ≡ n = omega arith in ap (λ k. position_from test k ys) same
  position_from-append i n (x ∷ xs) ys e = by (test x) (position_from-append (i + 1) n xs ys (omega arith))
    where
      by : (b : Bool) → position_from test (i + 1) (xs ++ ys) ≡ option_or (position_from test (i + 1) xs) (position_from test n ys)
          → cond b (Some i) (position_from test (i + 1) (xs ++ ys)) ≡ option_or (cond b (Some i) (position_from test (i + 1) xs)) (position_from test n ys)
      by true h = refl
      by false h = h

  module _ (xs : List X) (i : ℕ) (x : X) (within : i < length xs) (is : x ≡ get_or xs i x) where
    next_is : take (i + 1) xs ≡ take i xs ++ x ∷ []
    next_is = take_more xs i x within ∙ ap (λ y. take i xs ++ y ∷ []) (sym is)

    -- what is found among the items so far, and then the next
    position_from-next : position_from test 1 (take (i + 1) xs) ≡ option_or (position_from test 1 (take i xs)) (cond (test x) (Some (i + 1)) None)
    position_from-next = ap (position_from test 1) next_is ∙ position_from-append 1 (i + 1) (take i xs) (x ∷ []) (omega (arith, length-take-le i xs))

    -- what has been found so far, and then the next item, is what is found among them all
    pub found-more : (old new : Option ℕ) → old ≡ position_from test 1 (take i xs) → new ≡ option_or old (cond (test x) (Some (i + 1)) None)
        → new ≡ position_from test 1 (take (i + 1) xs)
    found-more old new before next = next ∙ ap (λ o. option_or o (cond (test x) (Some (i + 1)) None)) before ∙ sym position_from-next

    -- nothing is found so far, nor is it the next item
    pub found-none : position_from test 1 (take i xs) ≡ None → test x ≡ false → position_from test 1 (take (i + 1) xs) ≡ None
    found-none before fails = position_from-next ∙ ap (λ o. option_or o (cond (test x) (Some (i + 1)) None)) before ∙ ap (λ b. cond b (Some (i + 1)) None) fails

    -- nothing is found so far, and the next item is it
    pub found-here : position_from test 1 (take i xs) ≡ None → test x ≡ true → Some (i + 1) ≡ position_from test 1 xs
    found-here before passes =
        let here : position_from test 1 (take (i + 1) xs) ≡ Some (i + 1) =
        position_from-next ∙ ap (λ o. option_or o (cond (test x) (Some (i + 1)) None)) before ∙ ap (λ b. cond b (Some (i + 1)) None) passes in
        let rest = position_from-append 1 (1 + length (take (i + 1) xs)) (take (i + 1) xs) (drop (i + 1) xs) refl in
        let whole = ap (position_from test 1) (take-append-drop (i + 1) xs) in
        cc
