-- Where the day part ends, said by places and not by a walk.
use Rattle.std.specs.Prelude.{ℕ, zero, suc, Bool, true, false, ◌+◌, ◌≤◌, ◌≡◌, ◌==◌, ◌||◌, ◌⊎◌, List, [], ◌∷◌, ◌++◌, drop, get_or, length}
use Rattle.batch_records.specs.DayPart.{begins_with, end_word}

-- a line starts at this index: no byte stands before it, or LF or CR does. (Between the CR and the LF of a pair none starts, but
-- no END stands there either.)
abbrev pub starts_at : List ℕ → ℕ → Bool
starts_at input zero = true
starts_at input (suc i) = (get_or input i 0 == 10) || (get_or input i 0 == 13)

-- this is the end of a line with these bytes after it: LF, CR LF, a CR that no LF follows, or nothing at the end of the input
abbrev pub IsLineEnd : List ℕ → List ℕ → Type 0
IsLineEnd eol rest = (eol ≡ 10 ∷ []) ⊎ ((eol ≡ 13 ∷ 10 ∷ []) ⊎ (((eol ≡ 13 ∷ []) × (begins_with 10 rest ≡ false)) ⊎ ((eol ≡ []) × (rest ≡ []))))

-- at this index stands a line that is END and nothing else, and with its end it has so many bytes
pub record HasEnd (input : List ℕ) (i n : ℕ) : Type 0 where
  pub starts : starts_at input i ≡ true
  pub eol : List ℕ
  pub rest : List ℕ
  pub line : drop i input ≡ end_word ++ eol ++ rest
  pub ends : IsLineEnd eol rest
  pub size : n ≡ 3 + length eol

-- and no such line stands before
abbrev pub IsFirstEnd : List ℕ → ℕ → ℕ → Type 0
IsFirstEnd input i n = HasEnd input i n × ((j m : ℕ) → HasEnd input j m → i ≤ j)
