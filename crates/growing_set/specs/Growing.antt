-- A set whose bound rises.
use Rattle.std.specs.Prelude.{◌≡◌, ℕ, ◌+◌, ◌^◌, ◌<◌, ◌≤◌, Bool, false, List, length}
use Rattle.number_set.specs.Members.{has}

pub record Growing : Type 0 where
  -- the flags of the numbers below the bound
  pub set : List Bool
  -- by how much the bound can rise
  pub room : ℕ

-- what is kept has room for all numbers to which the bound can rise, and none from the bound on is a member
pub record IsGrowing (numbers : List Bool) (count room : ℕ) : Type 0 where
  pub within : count + room ≤ length numbers
  pub few : count + room < 2 ^ 32
  pub none : (k : ℕ) → count ≤ k → has numbers k ≡ false
