-- How many records state a day.
use Rattle.std.specs.Prelude.{ℕ, ◌+◌, Bool, true, false, length, sum_by}
use Rattle.batch_records.specs.Sound.{entries_in}
use Rattle.batch_records.specs.Versions.{begins_with_ver}
use Rattle.batch_records.specs.DayRecord.{Day}

abbrev pub one_if : Bool → ℕ
one_if true = 1
one_if false = 0

-- the records between DAY and END: one for each system, account, account that keeps amounts, stop, message and entry
abbrev pub inner_count : Day → ℕ
inner_count day = length day.systems + length day.accounts + length day.reserves + length day.stops + length day.messages + sum_by (λ m. length (entries_in m.body)) day.messages

-- the records of the day part, which in a day of version 2 or 3 has VER besides
abbrev pub record_count : Day → ℕ
record_count day = inner_count day + 2 + one_if (begins_with_ver day.version)
