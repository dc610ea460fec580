-- What reading a day answers, for contracts.
use Rattle.std.specs.Prelude.{ℕ, ◌≡◌, List, Result, Ok, Err}
use Rattle.batch_records.specs.Made.{day_made}
use Rattle.batch_records.specs.Records.{Fields}
use Rattle.batch_records.specs.DayRecord.{Day}
use Rattle.batch_records.specs.declared.day.DayCode.{DayCode}
use Rattle.batch_records.specs.declared.day.DayFault.{DayFault}
use Rattle.batch_records.specs.declared.day.DayFault.TheVariants as day_faults
use Rattle.batch_records.specs.Days.{faults_of, unless_bad}

-- the day of records, or the number and the code of the first bad one
abbrev pub day_of : List Fields → Result Day (ℕ × DayCode)
day_of records = unless_bad (faults_of records) (day_made records)

-- a fault that was told is the definition's, unless memory ran out
abbrev pub Tells : {A : Type 0} → DayFault → Result A (ℕ × DayCode) → Type 0
Tells (day_faults.Record number c) read = read ≡ Err (number, c)
Tells (day_faults.Memory memory) read = Unit {0}

-- what was answered is the definition's answer, unless memory ran out
abbrev pub Answers : {A : Type 0} → Result A DayFault → Result A (ℕ × DayCode) → Type 0
Answers (Ok a) read = read ≡ Ok a
Answers (Err e) read = Tells e read
