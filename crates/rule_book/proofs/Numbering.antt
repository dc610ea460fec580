-- Items that are counted from 1.
use Rattle.std.proofs.Common.{◌≡◌, ℕ, zero, suc, ◌+◌, ◌≤◌, Bool, true, false, cond, List, [], ◌∷◌, Some, None, length, refl, arith}
use Rattle.std.specs.Prelude.{◌||◌, is_some, slice_get}
use Rattle.std.specs.List.{list_any, position_from}

found_any : {X : Type 0} (test : X → Bool) (i : ℕ) (xs : List X) → list_any test xs ≡ is_some (position_from test i xs)
found_any test i [] = refl
found_any test i (x ∷ xs) = here (test x) (found_any test (i + 1) xs)
  where
    here : (b : Bool) → list_any test xs ≡ is_some (position_from test (i + 1) xs) → (b || list_any test xs) ≡ is_some (cond b (Some i) (position_from test (i + 1) xs))
    here true h = refl
    here false h = h

pub is_found : {X : Type 0} (test : X → Bool) (xs : List X) → list_any test xs ≡ is_some (position_from test 1 xs)
is_found test xs = found_any test 1 xs

-- there is no item at an index past the last
pub nothing_past : {X : Type 0} (xs : List X) (i : ℕ) → length xs ≤ i → slice_get xs i ≡ None
nothing_past [] i l = refl
nothing_past (x ∷ xs) zero l = absurd (omega arith)
nothing_past (x ∷ xs) (suc i) l = nothing_past xs i (omega (arith, l))
