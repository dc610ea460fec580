-- What the search for the number of an account gives.
use Rattle.std.proofs.Common.{◌≡◌, ◌<◌, ◌+◌, ◌∙◌, ◌||◌, ℕ, Bool, true, false, cond, List, [], ◌∷◌, ◌++◌, Some, None, length, position, refl, sym, ap, arith}
use Rattle.std.specs.Prelude.{is_some, option_map, unwrap_or}
use Rattle.std.specs.List.{list_any, position_from}
use Rattle.std.specs.Option.{option_or}
use Rattle.std.proofs.lemmas.Iterator.Adapters.{position_from-zero}

-- a search that counts from one more
pub counted_more : {X : Type 0} (t : X → Bool) (i : ℕ) (xs : List X) → position_from t (i + 1) xs ≡ option_map (λ k. k + 1) (position_from t i xs)
counted_more t i [] = refl
counted_more t i (x ∷ xs) =
    elim (t x) as (λ b. cond b (Some (i + 1)) (position_from t (i + 1 + 1) xs) ≡ option_map (λ k. k + 1) (cond b (Some i) (position_from t (i + 1) xs))) [
      | true ↦ refl
      | false ↦ counted_more t (i + 1) xs
    ]

-- the number after an index
pub number_is : {X : Type 0} (t : X → Bool) (xs : List X) → option_map (λ k. k + 1) (position t xs) ≡ position_from t 1 xs
number_is t xs = ap (option_map (λ k. k + 1)) (position_from-zero t xs) ∙ sym (counted_more t 0 xs)

-- a number is below the count of what is searched and one
pub number_within : {X : Type 0} (t : X → Bool) (i : ℕ) (xs : List X) → 0 < i → unwrap_or (position_from t i xs) 0 < i + length xs
number_within t i [] from = omega arith
number_within t i (x ∷ xs) from =
    let later = number_within t (i + 1) xs (omega arith) in
    elim (t x) as (λ b. unwrap_or (cond b (Some i) (position_from t (i + 1) xs)) 0 < i + length (x ∷ xs)) [
      | true ↦ omega arith
      | false ↦ omega (arith, later)
    ]

-- there is a number where there is such an item
pub number_there : {X : Type 0} (t : X → Bool) (i : ℕ) (xs : List X) → is_some (position_from t i xs) ≡ list_any t xs
number_there t i [] = refl
number_there t i (x ∷ xs) =
    elim (t x) as (λ b. is_some (cond b (Some i) (position_from t (i + 1) xs)) ≡ (b || list_any t xs)) [
      | true ↦ refl
      | false ↦ number_there t (i + 1) xs
    ]

-- a search through one item more, which has the number n
pub searched_more : {X : Type 0} (t : X → Bool) (i n : ℕ) (xs : List X) (x : X) → i + length xs ≡ n → position_from t i (xs ++ x ∷ []) ≡ option_or (position_from t i xs) (cond (t x) (Some n) None)
searched_more t i n [] x e = let same : i ≡ n = omega (arith, e) in ap (λ k. cond (t x) (Some k) None) same
searched_more t i n (y ∷ xs) x e =
    elim (t y) as (λ b. cond b (Some i) (position_from t (i + 1) (xs ++ x ∷ [])) ≡ option_or (cond b (Some i) (position_from t (i + 1) xs)) (cond (t x) (Some n) None)) [
      | true ↦ refl
      | false ↦ searched_more t (i + 1) n xs x (omega (arith, e))
    ]
