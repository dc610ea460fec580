-- How many lines and moves a legal history of a day can have.
use Rattle.std.specs.Prelude.{ℕ, ◌+◌, ◌*◌, ◌-◌, [], ◌∷◌, length, sum_by}
use Rattle.cash_amounts.specs.declared.limits.TheConstants.{MAX_ACCOUNTS, MAX_ENTRIES_OF_DAY, MAX_MESSAGES}
use Rattle.period_calendar.specs.declared.time.TheConstants.{MIDNIGHT}
use Rattle.batch_records.specs.Versions.{most_entries_of_day, most_messages}
use Rattle.batch_records.specs.DayRecord.{Day}
use Rattle.machine.specs.Records.Messages.{entries_in}
use Rattle.commit_journal.specs.Line.{History}

-- how many entries the batches of the day have
abbrev pub entries_of_all : Day → ℕ
entries_of_all day = sum_by (λ m. length (entries_in m.body)) day.messages

-- of a message its intake, one line for the whole of it and two turns, besides one for each entry; of an account its
-- scan; of each second a stop; and the end
abbrev pub most_lines : Day → ℕ
most_lines day = 4 * length day.messages + entries_of_all day + length day.accounts + (MIDNIGHT + 1)

-- one move for a message, two for an entry, one for an account
abbrev pub most_moves : Day → ℕ
most_moves day = length day.messages + 2 * entries_of_all day + length day.accounts

-- above what a sound day with so many messages and entries can bring
abbrev pub lines_of : ℕ → ℕ → ℕ
lines_of messages entries = 4 * messages + entries + MAX_ACCOUNTS + (MIDNIGHT + 1) + 1

abbrev pub moves_of_all : ℕ → ℕ → ℕ
moves_of_all messages entries = messages + 2 * entries + MAX_ACCOUNTS + 1

-- above what a sound day of this version can bring
abbrev pub line_limit_of : ℕ → ℕ
line_limit_of version = lines_of (most_messages version) (most_entries_of_day version)

abbrev pub move_limit_of : ℕ → ℕ
move_limit_of version = moves_of_all (most_messages version) (most_entries_of_day version)

-- and one of any version
abbrev pub line_limit : ℕ
line_limit = lines_of MAX_MESSAGES MAX_ENTRIES_OF_DAY

abbrev pub move_limit : ℕ
move_limit = moves_of_all MAX_MESSAGES MAX_ENTRIES_OF_DAY

-- how many moves the lines have
abbrev pub moved : History → ℕ
moved [] = 0
moved (l ∷ J) = length l.moves + moved J

-- how many lines a legal history can still get
abbrev pub left : Day → History → ℕ
left day J = most_lines day - length J
