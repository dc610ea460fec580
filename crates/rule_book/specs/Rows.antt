-- Rows of items that stand one after another in one list: a row for each message, an item for the message and each of its entries.
use Rattle.std.specs.Prelude.{ℕ, zero, suc, ◌+◌, ◌-◌, ◌≤◌, List, [], ◌∷◌, Option, None, ◌≡◌, nat_lt, take, drop}
use Rattle.machine.specs.Words.{when}

-- ---- rows of a list

-- the rows of the items from start on, where each ends
unfoldable pub cut : {X : Type 0} → ℕ → List ℕ → List X → List (List X)
cut start [] xs = []
cut start (end ∷ ends) xs = take (end - start) xs ∷ cut end ends (drop (end - start) xs)

-- where item k of a row stands, by the index of the row
unfoldable pub spot_from : ℕ → List ℕ → ℕ → ℕ → Option ℕ
spot_from start [] i k = None
spot_from start (end ∷ ends) zero k = when (nat_lt k (end - start)) (start + k)
spot_from start (end ∷ ends) (suc i) k = spot_from end ends i k

-- the same, by the number of the row, which counts from 1
abbrev pub spot_of : List ℕ → ℕ → ℕ → Option ℕ
spot_of ends zero k = None
spot_of ends (suc i) k = spot_from 0 ends i k

-- no row ends before it begins
unfoldable pub Rises : ℕ → List ℕ → Type 0
Rises start [] = Unit {0}
Rises start (end ∷ ends) = (start ≤ end) × Rises end ends

-- the last of them ends at this number
unfoldable pub RisesTo : ℕ → List ℕ → ℕ → Type 0
RisesTo start [] last = start ≡ last
RisesTo start (end ∷ ends) last = (start ≤ end) × RisesTo end ends last
