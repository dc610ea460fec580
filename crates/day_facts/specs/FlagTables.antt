-- The three tables of flags, as they stand in one list.
use Rattle.std.specs.Prelude.{ℕ, ◌≡◌, ◌-◌, ◌<◌, ◌≤◌, Bool, List, [], ◌∷◌, ◌++◌, Option, length, slice_index_or}
use Rattle.batch_records.specs.DayRecord.{Day}
use Rattle.commit_journal.specs.declared.line.Head.{Head}
use Rattle.day_facts.specs.Left.{debits_after, kept_after, waiting_after, watched_row}
use Rattle.day_facts.specs.Listed.{Rowed}
use Rattle.day_facts.specs.declared.watched.Watched.TheVariants as watches

-- their rows, and for how many more rows, and items of all of them, there is room in each
pub record FlagTables : Type 0 where
  pub debits : List (List Bool)
  pub waiting : List (List Bool)
  pub kept : List (List Bool)
  pub room_for_rows : ℕ
  pub room_for_items : ℕ

abbrev pub no_table : Rowed Bool
no_table = record { rows = []; room_for_rows = 0; room_for_items = 0 }

-- table i
abbrev pub table_in : List (Rowed Bool) → ℕ → Rowed Bool
table_in tables i = slice_index_or tables i no_table

abbrev pub tables_of : List (Rowed Bool) → FlagTables
tables_of tables = record {
  debits = (table_in tables 0).rows;
  waiting = (table_in tables 1).rows;
  kept = (table_in tables 2).rows;
  room_for_rows = (table_in tables 0).room_for_rows;
  room_for_items = (table_in tables 0).room_for_items;
}

-- as much room in one as in the other
pub record IsAlike (one other : Rowed Bool) : Type 0 where
  pub for_rows : other.room_for_rows ≡ one.room_for_rows
  pub for_items : other.room_for_items ≡ one.room_for_items

-- three tables with as much room in each
pub record AreTables (tables : List (Rowed Bool)) : Type 0 where
  pub three : length tables ≡ 3
  pub second : IsAlike (table_in tables 0) (table_in tables 1)
  pub third : IsAlike (table_in tables 0) (table_in tables 2)

-- there is room for one more row of this size
pub record IsFree (size : ℕ) (table : Rowed Bool) : Type 0 where
  pub for_rows : 0 < table.room_for_rows
  pub for_items : size ≤ table.room_for_items

-- no rows
abbrev pub no_tables : ℕ → ℕ → FlagTables
no_tables rows items = record { debits = []; waiting = []; kept = []; room_for_rows = rows; room_for_items = items }

-- message n comes in, over no lines
abbrev pub with_watched : Day → ℕ → FlagTables → FlagTables
with_watched day n tables = record {
  debits = tables.debits ++ watched_row watches.Debits day n ∷ [];
  waiting = tables.waiting ++ watched_row watches.Waiting day n ∷ [];
  kept = tables.kept ++ watched_row watches.Kept day n ∷ [];
  room_for_rows = tables.room_for_rows - 1;
  room_for_items = tables.room_for_items - length (watched_row watches.Debits day n);
}

-- after one more line, which may revoke something of the batch `aim`, where there is one
abbrev pub tables_after : Day → Option ℕ → Head → FlagTables → FlagTables
tables_after day aim head tables = record {
  debits = debits_after head tables.debits;
  waiting = waiting_after day aim head tables.waiting;
  kept = kept_after day aim head tables.kept;
  room_for_rows = tables.room_for_rows;
  room_for_items = tables.room_for_items;
}
