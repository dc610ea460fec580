-- Items by their numbers, and the numbers that a search finds.
use Rattle.std.proofs.Common.{◌≡◌, ℕ, zero, suc, ◌+◌, ◌-◌, ◌<◌, ◌≤◌, Bool, true, false, cond, List, [], ◌∷◌, length, map, get_or, slice_get, Option, None, Some, refl, ap, ◌∙◌, sym, arith}
use Rattle.std.proofs.lemmas.Option.{slice_get-map, slice_get-get_or}
use Rattle.std.specs.List.{position_from}
use Rattle.std.specs.Option.{IfSome, option_map}
use Rattle.cash_amounts.specs.Numbers.{numbered}

pub numbered-map : {X Y : Type 0} (f : X → Y) (xs : List X) (n : ℕ) → numbered (map f xs) n ≡ option_map f (numbered xs n)
numbered-map f xs zero = refl
numbered-map f xs (suc n) = slice_get-map f xs n

-- the item that is read at the place before its number
pub numbered-read : {X : Type 0} (xs : List X) (n : ℕ) (x : X) → 0 < n → n ≤ length xs → x ≡ get_or xs (n - 1) x → numbered xs n ≡ Some x
numbered-read xs zero x low high is = absurd (omega arith)
numbered-read xs (suc n) x low high is =
    let same : suc n - 1 ≡ n = omega arith in
    slice_get-get_or xs n x (omega arith) ∙ ap (λ k. Some (get_or xs k x)) (sym same) ∙ ap Some (sym is)

-- what the search finds is the number of an item that passes
pub record IsFound {X : Type 0} (test : X → Bool) (xs : List X) (n : ℕ) : Type 0 where
  pub least : 0 < n
  pub most : n ≤ length xs
  pub item : X
  pub there : numbered xs n ≡ Some item
  pub passes : test item ≡ true

module _ {X : Type 0} (test : X → Bool) where
  -- the same, where the search starts at the number i
  record IsFoundFrom (i : ℕ) (xs : List X) (n : ℕ) : Type 0 where
    place : ℕ
    n_is : n ≡ i + place
    within : place < length xs
    item : X
    there : slice_get xs place ≡ Some item
    passes : test item ≡ true

  found_from : (i : ℕ) (xs : List X) (n : ℕ) → position_from test i xs ≡ Some n → IsFoundFrom i xs n
  found_from i [] n e = cc
  found_from i (x ∷ xs) n e = by (test x) refl e (found_from (i + 1) xs n)
    where
      by : (b : Bool) → test x ≡ b → cond b (Some i) (position_from test (i + 1) xs) ≡ Some n → (position_from test (i + 1) xs ≡ Some n → IsFoundFrom (i + 1) xs n)
          → IsFoundFrom i (x ∷ xs) n
      by true t e later = let same : i ≡ n = cc in record { place = 0; n_is = omega arith; within = omega arith; item = x; there = refl; passes = t }
      by false t e later =
          let at = later e in
          record { place = suc at.place; n_is = omega arith; within = omega arith; item = at.item; there = at.there; passes = at.passes }

  pub found_is : (xs : List X) (n : ℕ) → position_from test 1 xs ≡ Some n → IsFound test xs n
  found_is xs n e =
      let at = found_from 1 xs n e in
      let same : n ≡ suc at.place = omega arith in
      record { least = omega arith; most = omega arith; item = at.item; there = ap (numbered xs) same ∙ at.there; passes = at.passes }

  -- what the search finds is a number of the list
  pub found_within : (xs : List X) (o : Option ℕ) → o ≡ position_from test 1 xs → IfSome o (λ n. (0 < n) × (n ≤ length xs))
  found_within xs None e = tt
  found_within xs (Some n) e = let at = found_is xs n (sym e) in (at.least, at.most)
