-- What was found at a place of a store, with the room for a text as it then is.
use Rattle.std.specs.Prelude.{◌≡◌, ℕ, ◌+◌, ◌<◌, ◌≤◌, true, false, List, ◌++◌, length, take, drop, Option, Some, None}
use Rattle.durable_day.specs.declared.reading.Entry.{Entry}
use Rattle.durable_day.specs.declared.reading.Entry.TheVariants as entries
use Rattle.durable_day.specs.Bytes.{gated, is_closed}

-- a text of so many bytes stands in front, after an open gate, and in front in the room
pub record IsText (bytes text : List ℕ) (count : ℕ) : Type 0 where
  pub room : count ≤ length text
  pub bytes_are : bytes ≡ gated (take count text) ++ drop (5 + count) bytes

-- no text stands in front after an open gate for which there is room
abbrev pub NoTextFits : List ℕ → List ℕ → Type 0
NoTextFits bytes text = (t : List ℕ) (rest : List ℕ) → bytes ≡ gated t ++ rest → length text < length t

abbrev pub IsTextOrNot : List ℕ → List ℕ → Option ℕ → Type 0
IsTextOrNot bytes text (Some count) = IsText bytes text count
IsTextOrNot bytes text None = NoTextFits bytes text

abbrev pub IsEntry : List ℕ → List ℕ → Entry → Type 0
IsEntry bytes text (entries.Text count) = IsText bytes text count
IsEntry bytes text entries.Closed = is_closed bytes ≡ true
IsEntry bytes text entries.Neither = (is_closed bytes ≡ false) × NoTextFits bytes text
