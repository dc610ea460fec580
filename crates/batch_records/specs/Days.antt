-- The day of some bytes, or its first bad record.
use Rattle.std.specs.Prelude.{ℕ, ◌+◌, if◌then◌else◌, List, [], ◌∷◌, ◌++◌, length, take, filter_map, option_map, Option, Result, Ok, Err}
use Rattle.std.specs.List.{enumerate_from, list_any}
use Rattle.batch_records.specs.Codes.{code_of}
use Rattle.batch_records.specs.DayPart.{day_len}
use Rattle.batch_records.specs.Made.{day_made, is_end}
use Rattle.batch_records.specs.Records.{Fields, day_records}
use Rattle.batch_records.specs.DayRecord.{Day}
use Rattle.batch_records.specs.declared.day.DayCode.{DayCode}
use Rattle.batch_records.specs.declared.day.DayCode.TheVariants as day_codes

-- the number and the code of the record at an index of a list, where it has a code
abbrev pub fault_at : List Fields → ℕ × Fields → Option (ℕ × DayCode)
fault_at records at = option_map (λ c. (at.0 + 1, c)) (code_of (take at.0 records) at.1)

-- the bad records of a list, each judged with those before it
unfoldable pub bad_records : List Fields → List (ℕ × DayCode)
bad_records records = filter_map (fault_at records) (enumerate_from 0 records)

-- a list without END lacks the record after its last
abbrev pub missing_end : List Fields → List (ℕ × DayCode)
missing_end records = if list_any is_end records then [] else (length records + 1, day_codes.Cut) ∷ []

abbrev pub faults_of : List Fields → List (ℕ × DayCode)
faults_of records = bad_records records ++ missing_end records

-- a value where there is no fault, and else the first fault
abbrev pub unless_bad : {A : Type 0} → List (ℕ × DayCode) → A → Result A (ℕ × DayCode)
unless_bad [] a = Ok a
unless_bad (f ∷ fs) a = Err f

-- the day of an input and how many bytes belong to it, or the number and the code of its first bad record
abbrev pub day_of_bytes : List ℕ → Result (Day × ℕ) (ℕ × DayCode)
day_of_bytes input = unless_bad (faults_of (day_records input)) (day_made (day_records input), day_len input)
