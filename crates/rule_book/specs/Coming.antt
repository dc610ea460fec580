-- A message that has come to the end of a day, of which nothing is found out yet.
use Rattle.std.specs.Prelude.{ℕ, ◌≡◌, length}
use Rattle.batch_records.specs.DayRecord.{Day}
use Rattle.batch_records.specs.declared.day.Message.{Message}
use Rattle.machine.specs.Records.Messages.{entries}
use Rattle.rule_book.specs.Repeated.{with_one}
use Rattle.rule_book.specs.Settings.{IsFound}
use Rattle.rule_book.specs.Tables.{AreTables}
use Rattle.rule_book.specs.declared.batch_tables.BatchTables.{BatchTables}
use Rattle.rule_book.specs.declared.found.Found.{Found}

-- how many entries the last message has
abbrev pub last_entries : Day → ℕ
last_entries day = length (entries day (length day.messages))

-- this is what is found out about the day before its last message came
pub record LacksLast (day : Day) (found : Found) (tables : BatchTables) : Type 0 where
  pub before : Day
  pub last : Message
  pub longer : day ≡ with_one before last
  pub found_out : IsFound before found
  pub tabled : AreTables before tables
