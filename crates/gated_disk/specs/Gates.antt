-- What a disk has while a piece is put down behind a closed gate, and what a crash may then leave.
use Rattle.std.specs.Prelude.{◌≡◌, ◌⊎◌, ℕ, ◌+◌, ◌≤◌, Bool, false, not, if◌then◌else◌, nat_eq, nat_lt, List, [], ◌∷◌, ◌++◌}
use Rattle.disk_model.specs.Crashes.{overwritten}
use Rattle.disk_model.specs.Cut.{once}

-- a byte other than 1 stands in front
abbrev pub is_closed : List ℕ → Bool
is_closed [] = false
is_closed (gate ∷ rest) = not (nat_eq gate 1)

-- A gate stands after the front, and after an open one the piece. Whatever else a crash leaves after the front, an open gate is
-- never in front of less than the whole piece.
pub record MayHaveGrown (front piece bytes : List ℕ) : Type 0 where
  pub gate : ℕ
  pub rest : List ℕ
  pub bytes_are : bytes ≡ front ++ gate ∷ rest
  pub whole : gate ≡ 1 → (tail : List ℕ) × (rest ≡ piece ++ tail)

-- an open gate stands after the front, and then the piece
abbrev pub HasGrown : List ℕ → List ℕ → List ℕ → Type 0
HasGrown front piece bytes = (tail : List ℕ) × (bytes ≡ front ++ 1 ∷ (piece ++ tail))

-- what is seen after so many of the four calls that append a piece after the gate at this place: a write, a sync, that of the gate,
-- and a sync
abbrev pub appended_by : ℕ → List ℕ → List ℕ → ℕ → List ℕ
appended_by end piece old calls =
    if nat_lt calls 3 then once old (overwritten (end + 1) piece old) calls
    else overwritten end (1 ∷ []) (overwritten (end + 1) piece old)

-- Some calls went by. What a crash may have left since a time before them is what it may have left since then up to them, or since any
-- time before them.
pub record RunsOn {D : Type 0} (clock : D → ℕ) (since : D → ℕ → List ℕ → Type 0) (old new : D) : Type 0 where
  pub later : clock old ≤ clock new
  pub keeps : (t : ℕ) (c : List ℕ) → t ≤ clock old → since old t c → since new t c
  pub nothing_else : (t s : ℕ) (c : List ℕ) → t ≤ clock old → s ≤ clock old → since new t c → since old t c ⊎ since new s c
