-- Lines by raw bytes, and whether one is END and nothing else.
use Rattle.std.specs.Prelude.{ℕ, ◌≡◌, ◌==◌, ◌⊎◌, if◌then◌else◌, List, [], ◌∷◌, ◌++◌, true}
use Rattle.record_rows.specs.Machine.{is_line_end}
use Rattle.record_rows.specs.declared.line.Line.{Line}
use Rattle.record_rows.specs.declared.line.Line.TheVariants as lines

-- the line after a byte: this one where the byte is the one that is wanted
abbrev pub next_line : ℕ → Line → ℕ → Line
next_line wanted reached b = if is_line_end b then lines.Begun else if b == wanted then reached else lines.Other

-- the line after a byte
abbrev pub line_after : Line → ℕ → Line
line_after lines.Begun b = next_line 69 lines.HasE b
line_after lines.HasE b = next_line 78 lines.HasEN b
line_after lines.HasEN b = next_line 68 lines.HasEND b
line_after lines.HasEND b = if is_line_end b then lines.Over else lines.Other
line_after lines.Other b = if is_line_end b then lines.Begun else lines.Other
line_after lines.Over b = lines.Over

unfoldable pub line_from : Line → List ℕ → Line
line_from line [] = line
line_from line (b ∷ text) = line_from (line_after line b) text

-- the line in which a text ends
abbrev pub line_of : List ℕ → Line
line_of text = line_from lines.Begun text

-- a line starts after these bytes: there are none, or the last of them is CR or LF. (Between the CR and the LF of a pair none
-- starts, but no END stands there either.)
abbrev pub StartsLine : List ℕ → Type 0
StartsLine before = (before ≡ []) ⊎ ((earlier : List ℕ) × (b : ℕ) × (before ≡ earlier ++ b ∷ []) × (is_line_end b ≡ true))

-- a text has a line that is END and nothing else, with its line end
pub record HasEndLine (text : List ℕ) : Type 0 where
  pub before : List ℕ
  pub eol : ℕ
  pub rest : List ℕ
  pub is : text ≡ before ++ 69 ∷ 78 ∷ 68 ∷ eol ∷ rest
  pub starts : StartsLine before
  pub ends : is_line_end eol ≡ true

-- a text ends in END, as a line without its line end
pub record EndsInEnd (text : List ℕ) : Type 0 where
  pub before : List ℕ
  pub is : text ≡ before ++ 69 ∷ 78 ∷ 68 ∷ []
  pub starts : StartsLine before
