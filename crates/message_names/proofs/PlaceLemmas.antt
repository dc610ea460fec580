-- The first place at which a test passes.
use Rattle.std.proofs.Common.{◌≡◌, ℕ, zero, suc, ◌+◌, ◌<◌, Bool, true, false, cond, List, [], ◌∷◌, ◌++◌, Option, None, Some, length, get_or, refl, ap, sym, ◌∙◌, arith}
use Rattle.std.specs.List.{position_from}
use Rattle.std.specs.Option.{option_or}
use Rattle.std.proofs.lemmas.Bool.{false_from_ne_true}
use Rattle.first_of_key.specs.declared.key.Key.{Key}
use Rattle.first_of_key.specs.First.{IsFirstOf, key_at}

module _ {X : Type 0} (test : X → Bool) where
  pub found_at : (i : ℕ) (xs : List X) (k : ℕ) (d : X) → k < length xs → test (get_or xs k d) ≡ true → ((j : ℕ) → j < k → test (get_or xs j d) ≡ false) → position_from test i xs ≡ Some (i + k)
  found_at i [] k d within passes none = absurd (omega arith)
  found_at i (x ∷ xs) zero d within passes none =
      ap (λ b. cond b (Some i) (position_from test (i + 1) xs)) passes ∙ (let e : i ≡ i + 0 = omega arith in ap Some e)
  found_at i (x ∷ xs) (suc k) d within passes none =
      ap (λ b. cond b (Some i) (position_from test (i + 1) xs)) (none 0 (omega arith))
      ∙ (found_at (i + 1) xs k d (omega arith) passes (λ j lt. none (suc j) (omega arith)) ∙ (let e : i + 1 + k ≡ i + suc k = omega arith in ap Some e))

  pub none_at : (i : ℕ) (xs : List X) (d : X) → ((j : ℕ) → j < length xs → test (get_or xs j d) ≡ false) → position_from test i xs ≡ None
  none_at i [] d none = refl
  none_at i (x ∷ xs) d none =
      ap (λ b. cond b (Some i) (position_from test (i + 1) xs)) (none 0 (omega arith)) ∙ none_at (i + 1) xs d (λ j lt. none (suc j) (omega arith))

  -- what is found is a place of the list, and the test passes there
  record IsPlaceFrom (i : ℕ) (xs : List X) (d : X) (n : ℕ) : Type 0 where
    place : ℕ
    is : n ≡ i + place
    within : place < length xs
    passes : test (get_or xs place d) ≡ true
    none_before : (j : ℕ) → j < place → test (get_or xs j d) ≡ false

  placed_from : (i : ℕ) (xs : List X) (d : X) (n : ℕ) → position_from test i xs ≡ Some n → IsPlaceFrom i xs d n
  placed_from i [] d n e = cc
  placed_from i (x ∷ xs) d n e = by (test x) refl e (placed_from (i + 1) xs d n)
    where
      by : (b : Bool) → test x ≡ b → cond b (Some i) (position_from test (i + 1) xs) ≡ Some n → (position_from test (i + 1) xs ≡ Some n → IsPlaceFrom (i + 1) xs d n)
          → IsPlaceFrom i (x ∷ xs) d n
      by true t e later = let same : i ≡ n = cc in record { place = 0; is = omega arith; within = omega arith; passes = t; none_before = λ j lt. absurd (omega arith) }
      by false t e later =
          let at = later e in
          record {
            place = suc at.place;
            is = omega arith;
            within = omega arith;
            passes = at.passes;
            none_before = below at.place t at.none_before;
          }
        where
          below : (k : ℕ) → test x ≡ false → ((j : ℕ) → j < k → test (get_or xs j d) ≡ false) → (j : ℕ) → j < suc k → test (get_or (x ∷ xs) j d) ≡ false
          below k t none zero lt = t
          below k t none (suc j) lt = none j (omega arith)

  pub record IsPlace (xs : List X) (d : X) (n : ℕ) : Type 0 where
    pub within : n < length xs
    pub passes : test (get_or xs n d) ≡ true
    pub none_before : (j : ℕ) → j < n → test (get_or xs j d) ≡ false

  pub placed : (xs : List X) (d : X) (n : ℕ) → position_from test 0 xs ≡ Some n → IsPlace xs d n
  placed xs d n e =
      let at = placed_from 0 xs d n e in
      let same : at.place ≡ n = omega arith in
      record { within = omega arith; passes = ap (λ k. test (get_or xs k d)) (sym same) ∙ at.passes; none_before = λ j lt. at.none_before j (omega arith) }

  pub none_passes : (i : ℕ) (xs : List X) (d : X) → position_from test i xs ≡ None → (j : ℕ) → j < length xs → test (get_or xs j d) ≡ false
  none_passes i [] d e j lt = absurd (omega arith)
  none_passes i (x ∷ xs) d e j lt = by (test x) refl e (none_passes (i + 1) xs d) j lt
    where
      by : (b : Bool) → test x ≡ b → cond b (Some i) (position_from test (i + 1) xs) ≡ None → (position_from test (i + 1) xs ≡ None → (j : ℕ) → j < length xs → test (get_or xs j d) ≡ false)
          → (j : ℕ) → j < length (x ∷ xs) → test (get_or (x ∷ xs) j d) ≡ false
      by true t e later j lt = cc
      by false t e later zero lt = t
      by false t e later (suc j) lt = later e j (omega arith)

  pub one_more : (i : ℕ) (xs : List X) (y : X) → position_from test i (xs ++ y ∷ []) ≡ option_or (position_from test i xs) (cond (test y) (Some (i + length xs)) None)
  one_more i [] y = let e : i ≡ i + 0 = omega arith in ap (λ n. cond (test y) (Some n) None) e
  one_more i (x ∷ xs) y = by (test x) (one_more (i + 1) xs y)
    where
      by : (b : Bool) → position_from test (i + 1) (xs ++ y ∷ []) ≡ option_or (position_from test (i + 1) xs) (cond (test y) (Some (i + 1 + length xs)) None)
          → cond b (Some i) (position_from test (i + 1) (xs ++ y ∷ [])) ≡ option_or (cond b (Some i) (position_from test (i + 1) xs)) (cond (test y) (Some (i + suc (length xs))) None)
      by true later = refl
      by false later =
          later
          ∙ (let e : i + 1 + length xs ≡ i + suc (length xs) = omega arith in ap (λ n. option_or (position_from test (i + 1) xs) (cond (test y) (Some n) None)) e)

  -- a key is first where the first item passes, if a key is this one exactly where its item passes
  pub first_is : (xs : List X) (d : X) (keys : List Key) (key : Key) (r : Option ℕ) → length keys ≡ length xs
      → ((i : ℕ) → i < length xs → key_at keys i ≡ key → test (get_or xs i d) ≡ true)
      → ((i : ℕ) → i < length xs → test (get_or xs i d) ≡ true → key_at keys i ≡ key)
      → IsFirstOf keys key r → r ≡ position_from test 0 xs
  first_is xs d keys key None long to back first =
      sym (none_at 0 xs d (λ j lt. false_from_ne_true (test (get_or xs j d)) (λ t. first j (omega arith) (back j lt t))))
  first_is xs d keys key (Some n) long to back first =
      let within : n < length xs = omega (arith, first.within) in
      sym (found_at 0 xs n d within (to n within first.same) (λ j lt. false_from_ne_true (test (get_or xs j d)) (λ t. first.none_before j lt (back j (omega arith) t)))
      ∙ (let e : 0 + n ≡ n = omega arith in ap Some e))
