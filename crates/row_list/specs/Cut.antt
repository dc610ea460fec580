-- How rows are kept: their items one after another in one list, and where each row ends in it.
use Rattle.std.specs.Prelude.{ℕ, ◌-◌, ◌≤◌, ◌≡◌, List, [], ◌∷◌, take, drop}

-- the rows of the items from start on, where each ends
unfoldable pub cut : {X : Type 0} → ℕ → List ℕ → List X → List (List X)
cut start [] xs = []
cut start (end ∷ ends) xs = take (end - start) xs ∷ cut end ends (drop (end - start) xs)

-- no row ends before it begins, and the last of them ends at this number
unfoldable pub RisesTo : ℕ → List ℕ → ℕ → Type 0
RisesTo start [] last = start ≡ last
RisesTo start (end ∷ ends) last = (start ≤ end) × RisesTo end ends last
