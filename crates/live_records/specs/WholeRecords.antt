-- Which records of an input are whole, where all of the input has come, and where more may come.
use Rattle.std.specs.Prelude.{ℕ, Bool, true, false, if◌then◌else◌, List, [], ◌∷◌}
use Rattle.batch_records.specs.Records.{Fields, records_of}
use Rattle.record_rows.specs.Input.{rows_read}
use Rattle.record_rows.specs.Lines.{line_after, line_of}
use Rattle.record_rows.specs.declared.line.Line.{Line}
use Rattle.record_rows.specs.declared.line.Line.TheVariants as lines

-- a line that is END and nothing else has come with its line end
abbrev pub is_over : Line → Bool
is_over lines.Over = true
is_over _ = false

-- what belongs to the day of bytes that stand in this line
unfoldable pub cut_from : Line → List ℕ → List ℕ
cut_from line [] = []
cut_from line (b ∷ input) = if is_over line then [] else b ∷ cut_from (line_after line b) input

-- an input up to its first line that is END and nothing else, with the byte that ends it; without such a line all of it
abbrev pub cut : List ℕ → List ℕ
cut input = cut_from lines.Begun input

-- whether an input has ended with a line END: one with its line end, or, where all of the input has come, one without
abbrev pub has_ended : Bool → Line → Bool
has_ended all lines.Over = true
has_ended all lines.HasEND = all
has_ended all _ = false

-- Its whole records. Where the input has ended with a line END they are all records up to there, as a day file has them; else those that
-- have their line ends, outside quotes.
unfoldable pub whole_records : Bool → List ℕ → List Fields
whole_records all input = if has_ended all (line_of input) then records_of (cut input) else rows_read input
