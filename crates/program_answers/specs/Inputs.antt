-- The answer to bytes that are to be a day and something after it, and what an answer says of them.
use Rattle.std.specs.Prelude.{ℕ, ◌≡◌, ◌≤◌, ◌<◌, if◌then◌else◌, true, List, length, drop, nat_lt, Result, Ok, Err}
use Rattle.batch_records.specs.DayRecord.{Day}
use Rattle.batch_records.specs.declared.day.DayCode.{DayCode}
use Rattle.batch_records.specs.Days.{day_of_bytes}
use Rattle.batch_records.specs.Sound.{is_sound}
use Rattle.batch_records.specs.Records.{day_records}
use Rattle.program_answers.specs.Answers.{Answer, refusal_text, refused, size_text, too_long}

-- ---- the answer

-- that over the day, what follows it, and the number of its records; or which record is refused
abbrev pub answer_of_read : (Day → List ℕ → ℕ → Answer) → List ℕ → Result (Day × ℕ) (ℕ × DayCode) → Answer
answer_of_read over bytes (Ok read) = over read.0 (drop read.1 bytes) (length (day_records bytes))
answer_of_read over bytes (Err fault) = refused fault.0 fault.1

-- of an input of these bytes, which may have so many
unfoldable pub answer_of_input : ℕ → (Day → List ℕ → ℕ → Answer) → List ℕ → Answer
answer_of_input longest over bytes = if nat_lt longest (length bytes) then too_long else answer_of_read over bytes (day_of_bytes bytes)

-- ---- what it says

-- they are a sound day with this rest after it, and no more than an input may have
pub record IsGiven (longest : ℕ) (bytes : List ℕ) (day : Day) (rest : List ℕ) : Type 0 where
  pub short : length bytes ≤ longest
  pub day_length : ℕ
  pub is_day : day_of_bytes bytes ≡ Ok (day, day_length)
  pub sound : is_sound day ≡ true
  pub is_rest : rest ≡ drop day_length bytes

-- status 3: the definition of a day refuses them, with this record and code
pub record IsRefused (longest : ℕ) (bytes text : List ℕ) : Type 0 where
  pub short : length bytes ≤ longest
  pub number : ℕ
  pub code : DayCode
  pub refused : day_of_bytes bytes ≡ Err (number, code)
  pub is : text ≡ refusal_text number code

-- status 7: they are too many
pub record IsTooLong (longest : ℕ) (bytes text : List ℕ) : Type 0 where
  pub long : longest < length bytes
  pub is : text ≡ size_text
