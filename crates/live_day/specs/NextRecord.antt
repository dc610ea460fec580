-- The record that comes after records that were heard, and the end of a day after them.
use Rattle.std.specs.Prelude.{ℕ, ◌+◌, ◌≡◌, ◌&&◌, not, if◌then◌else◌, false, true, List, [], ◌++◌}
use Rattle.batch_records.specs.Records.{Fields}
use Rattle.batch_records.specs.declared.day.DayCode.TheVariants as day_codes
use Rattle.record_rows.specs.Rows.{kept_row}
use Rattle.program_answers.specs.Answers.{Answer, refusal_text}
use Rattle.live_records.specs.Heard.{Heard, day_of, has_end, heard}
use Rattle.live_day.specs.Told.{told_calls, told_end}

-- A record of which this is kept comes after these records, of which none ended the run. It has this number.
pub record IsNext (records : List Fields) (r : Fields) (row : Fields) (place : ℕ) : Type 0 where
  pub kept : row ≡ kept_row r
  pub number : place ≡ (heard records).count + 1
  pub going : (heard records).broken ≡ false

-- END was accepted among these records, of which none ended the run
pub record HasEnd (records : List Fields) : Type 0 where
  pub going : (heard records).broken ≡ false
  pub ended : has_end (heard records) ≡ true

-- what these records call for
abbrev pub told_of : List Fields → List ℕ
told_of records = told_calls (day_of (heard records)) 0 (heard records).calls

-- what is told after that where their input has ended
abbrev pub told_last : List Fields → List ℕ
told_last records = if has_end (heard records) && not (heard records).broken then told_end (day_of (heard records)) else []

-- the answer where an input has ended that has these records, and so far this was told
abbrev pub answer_with : Heard → List ℕ → Answer
answer_with h text =
    if h.broken then record { status = 3; text = text }
    else if has_end h then record { status = 0; text = text }
    else record { status = 3; text = text ++ refusal_text (h.count + 1) day_codes.Cut }
