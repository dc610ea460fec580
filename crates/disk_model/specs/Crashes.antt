-- What the calls of a disk do to its bytes, and what a crash may leave.
use Rattle.std.specs.Prelude.{◌≡◌, ◌⊎◌, ◌↔◌, ℕ, suc, ◌+◌, ◌≤◌, List, ◌++◌, length, take, drop}

-- the bytes with the piece in the place of those from `at` on, and past the end
abbrev pub overwritten : ℕ → List ℕ → List ℕ → List ℕ
overwritten at piece old = take at old ++ piece ++ drop (at + length piece) old

-- After a write of n bytes at `at` that a crash tore: any bytes in this range, all others as they were. Of a write past the old end
-- there may be any number of any bytes after the old end, more than were written too. What was there isn't cut short.
pub record Torn (at n : ℕ) (old new : List ℕ) : Type 0 where
  pub before : take at new ≡ take at old
  pub behind : at + n ≤ length old → drop (at + n) new ≡ drop (at + n) old
  pub no_shorter : length old ≤ length new

-- each new image is an old one
abbrev pub AddsNone : (List ℕ → Type 0) → (List ℕ → Type 0) → Type 0
AddsNone old new = (c : List ℕ) → new c → old c

-- each new image is an old one after a step
abbrev pub Follows : (List ℕ → List ℕ → Type 0) → (List ℕ → Type 0) → (List ℕ → Type 0) → Type 0
Follows step old new = (c : List ℕ) → new c → (d : List ℕ) × old d × step d c

-- nothing but these bytes is an image
abbrev pub Only : List ℕ → (List ℕ → Type 0) → Type 0
Only bytes image = (c : List ℕ) → image c → c ≡ bytes

-- A call went by. It raised the clock by at most one, and by one where it changed the bytes or the images. What a crash may
-- have left since a time before it is what it may have left since then up to the call, or what it may leave now.
pub record Elapses {D : Type 0} (seen : D → List ℕ) (image : D → List ℕ → Type 0) (clock : D → ℕ) (since : D → ℕ → List ℕ → Type 0) (old new : D) : Type 0 where
  pub later : clock old ≤ clock new
  pub at_most_one : clock new ≤ suc (clock old)
  pub still : clock new ≡ clock old → (seen new ≡ seen old) × ((c : List ℕ) → image new c ↔ image old c)
  pub keeps : (t : ℕ) (c : List ℕ) → t ≤ clock old → since old t c → since new t c
  pub nothing_else : (t : ℕ) (c : List ℕ) → t ≤ clock old → since new t c → since old t c ⊎ image new c
