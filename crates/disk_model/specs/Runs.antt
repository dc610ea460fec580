-- What several calls of a disk leave, one after the other.
use Rattle.std.specs.Prelude.{◌≡◌, ◌⊎◌, ℕ, ◌+◌, ◌≤◌, List}
use Rattle.disk_model.specs.Crashes.{AddsNone}

-- A crash at any moment since `old`, inside a call or between two, leaves bytes that have P.
pub record LeavesOnly {D : Type 0} (clock : D → ℕ) (since : D → ℕ → List ℕ → Type 0) (old new : D) (P : List ℕ → Type 0) : Type 0 where
  pub later : clock old ≤ clock new
  pub each : (c : List ℕ) → since new (clock old) c → P c
  -- for a run that began earlier
  pub before : (t : ℕ) (c : List ℕ) → t ≤ clock old → since new t c → since old t c ⊎ P c

-- Nothing was written. The bytes are the same, there are no more images than there were, nor were there meanwhile, and the clock
-- went on by at most so many steps.
pub record OnlyLooks {D : Type 0} (seen : D → List ℕ) (image : D → List ℕ → Type 0) (clock : D → ℕ) (since : D → ℕ → List ℕ → Type 0) (old new : D) (steps : ℕ) : Type 0 where
  pub same : seen new ≡ seen old
  pub images : AddsNone (image old) (image new)
  pub moments : LeavesOnly clock since old new (image old)
  pub time : clock new ≤ clock old + steps
