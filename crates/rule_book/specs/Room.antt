-- The room that a day, and what is found out about it, have for more messages and entries.
use Rattle.std.specs.Prelude.{ℕ, ◌+◌, ◌*◌, ◌≤◌, length, sum_by}
use Rattle.batch_records.specs.DayRecord.{Day}
use Rattle.batch_records.specs.Growing.{entries_of}
use Rattle.rule_book.specs.declared.batch_tables.BatchTables.{BatchTables}
use Rattle.rule_book.specs.declared.found.Found.{Found}

-- of the day
pub record DayHasRoom (messages entries : ℕ) (day : Day) : Type 0 where
  pub messages_fit : length day.messages + messages ≤ day.room.messages
  pub entries_fit : entries_of day.messages + entries ≤ day.room.entries

-- of what is found out about its messages
pub record FoundHasRoom (messages entries : ℕ) (found : Found) : Type 0 where
  pub names : length found.repeats.names + messages ≤ found.repeats.most
  pub rows : length found.moves.list.rows + messages ≤ found.moves.messages
  pub moves : sum_by length found.moves.list.rows + entries ≤ found.moves.entries
  pub accounts : length found.accounts.accounts + messages ≤ found.accounts.most

-- of what is found out about its batches
pub record TablesHaveRoom (entries : ℕ) (tables : BatchTables) : Type 0 where
  pub debts : length tables.debts.keys + entries ≤ tables.debts.most
  pub keys : length tables.parties.keys + 2 * entries ≤ tables.parties.most

-- room for what is found out about a day of so many accounts, with so many messages and so many entries of all of them
pub record SettingRoom : Type 0 where
  pub accounts : ℕ
  pub messages : ℕ
  pub entries : ℕ

-- of all of it
pub record HasRoom (messages entries : ℕ) (day : Day) (found : Found) (tables : BatchTables) : Type 0 where
  pub day_room : DayHasRoom messages entries day
  pub found_room : FoundHasRoom messages entries found
  pub tables_room : TablesHaveRoom entries tables
