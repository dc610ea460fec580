-- Elements of lists, and lists that are made over ranges.
use Rattle.std.proofs.Common.{◌≡◌, ◌∙◌, ◌+◌, ℕ, zero, suc, Bool, true, List, [], ◌∷◌, ◌++◌, Some, length, append_assoc, map, refl, sym, ap, subst, arith}
use Rattle.std.specs.Prelude.{option_map, slice_get}
use Rattle.std.specs.List.{list_all, range_with_len}
use Rattle.std.proofs.lemmas.List.{append-nil}
use Rattle.std.proofs.lemmas.List.FromFn.{map-range_with_len_more}
use Rattle.std.proofs.lemmas.Bool.{and_parts}
use Rattle.std.proofs.lemmas.Option.{same_Some}
use Rattle.machine.specs.Words.{numbered, numbers}

-- what all elements pass, the one at a place passes
pub all_get : {X : Type 0} (test : X → Bool) (xs : List X) (i : ℕ) (x : X) → list_all test xs ≡ true → slice_get xs i ≡ Some x → test x ≡ true
all_get test [] i x h e = cc
all_get test (y ∷ ys) zero x h e = subst (λ z. test z ≡ true) (same_Some y x e) (and_parts (test y) (list_all test ys) h).0
all_get test (y ∷ ys) (suc i) x h e = all_get test ys i x (and_parts (test y) (list_all test ys) h).1 e

-- ---- an item of a list that is made over the numbers of another

pub get_map : {X Y : Type 0} (f : ℕ → X) (xs : List Y) (s i j : ℕ) → j ≡ s + i → slice_get (map f (range_with_len s (length xs))) i ≡ option_map (λ y. f j) (slice_get xs i)
get_map f [] s i j e = refl
get_map f (x ∷ xs) s zero j e = let at : s ≡ j = omega (arith, e) in ap (λ k. Some (f k)) at
get_map f (x ∷ xs) s (suc i) j e = get_map f xs (s + 1) i j (omega (arith, e))

pub numbered_map : {X Y : Type 0} (f : ℕ → X) (xs : List Y) (n : ℕ) → numbered (map f (numbers xs)) n ≡ option_map (λ y. f n) (numbered xs n)
numbered_map f xs zero = refl
numbered_map f xs (suc i) = get_map f xs 1 i (suc i) (omega arith)

-- one more after other items
pub row_pushed : {X : Type 0} (f : ℕ → X) (base old new : List X) (k : ℕ) (x : X) → old ≡ base ++ map f (range_with_len 0 k) → x ≡ f k → new ≡ old ++ x ∷ [] → new ≡ base ++ map f (range_with_len 0 (k + 1))
row_pushed f base old new k x h e n =
    n ∙ ap (λ xs. xs ++ x ∷ []) h ∙ append_assoc base (map f (range_with_len 0 k)) (x ∷ [])
    ∙ ap (λ xs. base ++ xs) (ap (λ y. map f (range_with_len 0 k) ++ y ∷ []) e ∙ sym (map-range_with_len_more f 0 k k (let at : 0 + k ≡ k = omega arith in at)))

pub none_pushed : {X : Type 0} (base : List X) → base ≡ base ++ []
none_pushed base = sym (append-nil base)
