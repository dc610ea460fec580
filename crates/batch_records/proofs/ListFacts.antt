-- Lists all of whose items pass a test.
use Rattle.std.proofs.Common.{◌≡◌, ◌<◌, ℕ, zero, suc, List, [], ◌∷◌, ◌++◌, Bool, true, length, get_or, drop, take, map, refl, arith}
use Rattle.std.specs.List.{list_all}
use Rattle.batch_records.proofs.BoolFacts.{and_both}

pub all_at : {X : Type 0} (p : X → Bool) (xs : List X) (i : ℕ) (d : X) → list_all p xs ≡ true → i < length xs → p (get_or xs i d) ≡ true
all_at p [] i d all lt = absurd (omega arith)
all_at p (x ∷ xs) zero d all lt = (and_both (p x) (list_all p xs) all).0
all_at p (x ∷ xs) (suc i) d all lt = all_at p xs i d (and_both (p x) (list_all p xs) all).1 (omega arith)

pub all_drop : {X : Type 0} (p : X → Bool) (i : ℕ) (xs : List X) → list_all p xs ≡ true → list_all p (drop i xs) ≡ true
all_drop p zero xs all = all
all_drop p (suc i) [] all = refl
all_drop p (suc i) (x ∷ xs) all = all_drop p i xs (and_both (p x) (list_all p xs) all).1

pub all_take : {X : Type 0} (p : X → Bool) (i : ℕ) (xs : List X) → list_all p xs ≡ true → list_all p (take i xs) ≡ true
all_take p zero xs all = refl
all_take p (suc i) [] all = refl
all_take p (suc i) (x ∷ xs) all = let both = and_both (p x) (list_all p xs) all in rw (both.0, all_take p i xs both.1) refl

-- ---- the same where what holds of an item is no test

abbrev pub AllIn : {X : Type 0} → (X → Type 0) → List X → Type 0
AllIn P [] = Unit {0}
AllIn P (x ∷ xs) = P x × AllIn P xs

pub all_in_append : {X : Type 0} (P : X → Type 0) (xs ys : List X) → AllIn P xs → AllIn P ys → AllIn P (xs ++ ys)
all_in_append P [] ys a b = b
all_in_append P (x ∷ xs) ys a b = (a.0, all_in_append P xs ys a.1 b)

pub all_in_first : {X : Type 0} (P : X → Type 0) (xs ys : List X) → AllIn P (xs ++ ys) → AllIn P xs
all_in_first P [] ys a = tt
all_in_first P (x ∷ xs) ys a = (a.0, all_in_first P xs ys a.1)

pub all_in_then : {X : Type 0} (P : X → Type 0) (xs ys : List X) → AllIn P (xs ++ ys) → AllIn P ys
all_in_then P [] ys a = a
all_in_then P (x ∷ xs) ys a = all_in_then P xs ys a.1

-- what each item that passes is made to
pub all_in_map : {X Y : Type 0} (P : Y → Type 0) (f : X → Y) (p : X → Bool) → ((x : X) → p x ≡ true → P (f x)) → (xs : List X) → list_all p xs ≡ true → AllIn P (map f xs)
all_in_map P f p h [] all = tt
all_in_map P f p h (x ∷ xs) all = let both = and_both (p x) (list_all p xs) all in (h x both.0, all_in_map P f p h xs both.1)
