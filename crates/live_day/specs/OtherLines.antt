-- The line in which a text isn't what it should be, by whole lines.
use Rattle.std.specs.Prelude.{ℕ, ◌≡◌, ◌==◌, zero, suc, if◌then◌else◌, List, [], ◌∷◌}
use Rattle.live_records.specs.Fates.{IsFront}

-- the first lines of a text, each with its LF; of its last line, which may have none, as much as there is
abbrev pub first_lines : ℕ → List ℕ → List ℕ
first_lines zero text = []
first_lines (suc count) [] = []
first_lines (suc count) (b ∷ text) = b ∷ first_lines (if b == 10 then count else suc count) text

-- the lines before this one, from 1, begin another text, and with it they don't
pub record IsOtherLine (text should : List ℕ) (line : ℕ) : Type 0 where
  pub before : ℕ
  pub number : line ≡ suc before
  pub own : IsFront (first_lines before text) should
  pub other : IsFront (first_lines line text) should → ⊥
