-- How far a run that goes on has come.
use Rattle.std.specs.Prelude.{ℕ, ◌≡◌, true, false, List, [], ◌++◌, length, Some, None}
use Rattle.live_day.specs.GoingOn.{HasGone}
use Rattle.live_day.specs.Resumed.{Before, before_of, has_no_header, is_own, other_line}
use Rattle.live_day.specs.Told.{told}
use Rattle.live_day.specs.declared.resuming.Resuming.{Resuming}
use Rattle.live_day.specs.declared.resuming.Stage.{Stage}
use Rattle.live_day.specs.declared.resuming.Stage.TheVariants as stages

-- what was read before and goes on
abbrev pub input_of : Before → List ℕ
input_of b = b.read ++ b.rest

-- These bytes came first, and more has to come; or a header isn't so; or what was written isn't its own, as this line tells; or the day
-- goes on.
abbrev pub IsAt : (List ℕ → Type 0) → List ℕ → Stage → List ℕ → Type 0
IsAt Heard input stages.Reads bytes = (input ≡ bytes) × (before_of bytes ≡ None) × (has_no_header bytes ≡ false) × Heard []
IsAt Heard input stages.NoHeader bytes = (before_of bytes ≡ None) × (has_no_header bytes ≡ true)
IsAt Heard input (stages.Differs line) bytes = (b : Before) × (before_of bytes ≡ Some b) × (is_own b ≡ false) × (line ≡ other_line b.written (told b.read))
IsAt Heard input stages.GoesOn bytes = (b : Before) × (before_of bytes ≡ Some b) × (is_own b ≡ true) × HasGone Heard (input_of b)

abbrev pub before : List ℕ → List ℕ → List ℕ → Before
before read written rest = record { read = read; written = written; rest = rest }

-- the day goes on from this, or what was written isn't its own
abbrev pub SetsOut : (List ℕ → Type 0) → Before → Stage → Type 0
SetsOut Heard b (stages.Differs line) = (is_own b ≡ false) × (line ≡ other_line b.written (told b.read))
SetsOut Heard b stages.GoesOn = (is_own b ≡ true) × HasGone Heard (input_of b)
SetsOut Heard b _ = ⊥

pub record HasResumed {D : Type 0} (has_heard : D → List ℕ → Type 0) (r : Resuming D) (bytes : List ℕ) : Type 0 where
  pub size : r.size ≡ length bytes
  pub at : IsAt (has_heard r.day) r.input.bytes.items r.stage bytes
