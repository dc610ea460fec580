-- What a reader of an input has seen of it.
use Rattle.std.specs.Prelude.{ℕ, Bool, false, ◌==◌, ◌&&◌, ◌≡◌, if◌then◌else◌, List, [], ◌∷◌, ◌++◌, length, MatchBool}
use Rattle.csv.specs.Reading.{strip_bom}
use Rattle.record_rows.specs.Lines.{line_of}
use Rattle.record_rows.specs.Machine.{Place, at_start, place_after, rows_from, shown}
use Rattle.record_rows.specs.Rows.{Fields, kept_row}
use Rattle.record_rows.specs.declared.input.Mark.{Mark}
use Rattle.record_rows.specs.declared.input.Mark.TheVariants as marks
use Rattle.record_rows.specs.declared.line.Line.{Line}

-- how much of a byte order mark an input is, where it is a front of one, and else that it is past that
abbrev pub mark_of : List ℕ → Mark
mark_of [] = marks.Begun
mark_of (a ∷ []) = if a == 239 then marks.First else marks.Past
mark_of (a ∷ b ∷ []) = if (a == 239) && (b == 187) then marks.Second else marks.Past
mark_of (a ∷ b ∷ c ∷ rest) = marks.Past

abbrev pub mark_after : Mark → ℕ → Mark
mark_after marks.Begun b = if b == 239 then marks.First else marks.Past
mark_after marks.First b = if b == 187 then marks.Second else marks.Past
mark_after marks.Second b = marks.Past
mark_after marks.Past b = marks.Past

abbrev pub ends_mark : Mark → ℕ → Bool
ends_mark marks.Second b = b == 191
ends_mark _ b = false

-- the records that come whole in an input, after a byte order mark if it has one, and where it leaves a reader
abbrev pub rows_read : List ℕ → List Fields
rows_read input = rows_from at_start (strip_bom input)

abbrev pub place_of : List ℕ → Place
place_of input = place_after at_start (strip_bom input)

-- what a reader has seen: where it stands, with what is kept of the record; its line by raw bytes; and how many records came whole
pub record Seen : Type 0 where
  pub place : Place
  pub mark : Mark
  pub line : Line
  pub whole : ℕ

-- what it has seen of an input
abbrev pub seen : List ℕ → Seen
seen input = record { place = shown (place_of input); mark = mark_of input; line = line_of input; whole = length (rows_read input) }

-- whether one record more came whole, and what is kept of it
abbrev pub Came : Bool → List Fields → List Fields → Fields → Type 0
Came came before now row = MatchBool came ((r : Fields) × (now ≡ before ++ r ∷ []) × (row ≡ kept_row r)) (now ≡ before)
