-- What a live day has of the bytes that came.
use Rattle.std.specs.Prelude.{ℕ, ◌≡◌, ◌<◌, ◌≤◌, Bool, true, false, if◌then◌else◌, List, [], ◌∷◌, ◌++◌, length, Option, Some, None, Result, IfOk}
use Rattle.batch_records.specs.Records.{Fields}
use Rattle.outside_io.specs.Calls.{Puts}
use Rattle.outside_io.specs.Pieces.{SinkState}
use Rattle.record_rows.specs.Input.{place_of, rows_read, seen}
use Rattle.record_rows.specs.Lines.{line_of}
use Rattle.record_rows.specs.Machine.{open_rows}
use Rattle.record_rows.specs.declared.line.Line.{Line}
use Rattle.record_rows.specs.declared.line.Line.TheVariants as lines
use Rattle.live_records.specs.Heard.{heard}
use Rattle.live_records.specs.WholeRecords.{is_over}
use Rattle.live_day.specs.Answers.{is_settled_by, live_answer, longest_input, looked_at}
use Rattle.live_day.specs.Endings.{answer_as}
use Rattle.live_day.specs.NextRecord.{told_last, told_of}
use Rattle.live_day.specs.Told.{told}
use Rattle.live_day.specs.declared.endings.Ending.{Ending}
use Rattle.live_day.specs.declared.listening.LiveDay.{LiveDay}
use Rattle.live_day.specs.declared.reading.DayReader.{DayReader}

-- ---- records of bytes

-- where they end in a line END: with the record that is open there
abbrev pub closed_rows : List ℕ → List Fields
closed_rows input = rows_read input ++ open_rows (place_of input)

-- where they have all come, and end in no line END with its line end
abbrev pub is_last : Line → Bool
is_last lines.HasEND = true
is_last _ = false

abbrev pub all_rows : List ℕ → List Fields
all_rows input = if is_last (line_of input) then closed_rows input else rows_read input

-- ---- what a call tells

-- what the later records call for after the first of them
pub record TellsOn {T E : Type 0} (before now : List Fields) (old new : SinkState) (result : Result T E) : Type 0 where
  pub text : List ℕ
  pub is : told_of now ≡ told_of before ++ text
  pub put : Puts old new text result

-- that, and what is told at the end of their input
pub record TellsEnd {T E : Type 0} (before now : List Fields) (old new : SinkState) (result : Result T E) : Type 0 where
  pub text : List ℕ
  pub is : told_of now ++ told_last now ≡ told_of before ++ text
  pub put : Puts old new text result

-- what bytes call for after their records that came whole
pub record TellsRest {T E : Type 0} (input : List ℕ) (old new : SinkState) (result : Result T E) : Type 0 where
  pub text : List ℕ
  pub is : told (looked_at input) ≡ told_of (rows_read input) ++ text
  pub put : Puts old new text result

-- what bytes call for, where no more come, and how they end
pub record TellsLast {E : Type 0} (input : List ℕ) (old new : SinkState) (result : Result Ending E) : Type 0 where
  pub ending : Ending
  pub text : List ℕ
  pub answer : live_answer input ≡ answer_as ending (told (looked_at input) ++ text)
  pub put : Puts old new text result
  pub is : IfOk result (λ end. end ≡ ending)

-- ---- what has been heard

-- nothing that follows these bytes changes the answer to them, which ends so
pub record IsEnded (ending : Ending) (input : List ℕ) : Type 0 where
  pub settled : is_settled_by input ≡ true
  pub answer : live_answer input ≡ answer_as ending (told (looked_at input))

module _ {D : Type 0} (HasHeard : D → List Fields → Type 0) where
  -- the day has heard these records
  pub record HasRecords (reader : DayReader D) (records : List Fields) : Type 0 where
    pub heard : HasHeard reader.day records
    pub count : reader.count ≡ length records

  -- these bytes were read, and the day has heard the records that came whole
  pub record HasRead (reader : DayReader D) (input : List ℕ) : Type 0 where
    pub is_seen : reader.reader ≡ seen input
    pub records : HasRecords reader (rows_read input)

  -- and more may come
  pub record IsOpen (reader : DayReader D) (input : List ℕ) : Type 0 where
    pub read : HasRead reader input
    pub going : (heard (rows_read input)).broken ≡ false
    pub line : is_over (line_of input) ≡ false
    pub within : length input ≤ longest_input

  -- one byte more was read after bytes that had no line END
  pub record HasReadOne (reader : DayReader D) (front : List ℕ) (b : ℕ) : Type 0 where
    pub read : HasRead reader (front ++ b ∷ [])
    pub line : is_over (line_of front) ≡ false
    pub within : length front < longest_input

  -- more may come, or the input ends so
  abbrev pub Stands : Option Ending → DayReader D → List ℕ → Type 0
  Stands None reader input = IsOpen reader input
  Stands (Some ending) reader input = IsEnded ending input

  -- these bytes have come
  pub record HasListened (day : LiveDay D) (input : List ℕ) : Type 0 where
    pub size : day.size ≡ length input
    pub stands : Stands day.ending day.reader input
