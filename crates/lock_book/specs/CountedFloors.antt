-- The floor and its teller.
use Rattle.std.specs.Prelude.{◌≡◌}
use Rattle.atomic_table.specs.Seated.{TableId}
use Rattle.batch_records.specs.DayRecord.{Day}
use Rattle.journal_pass.specs.Known.{Told}
use Rattle.settle_floor.specs.Floors.{IsFor, OnFloor}

-- the teller is of this table and day and has counted the whole journal of the floor, which was opened for the day
pub record IsCounted (table : TableId) (day : Day) (floor : OnFloor) (teller : Told) : Type 0 where
  pub table_is : teller.table ≡ table
  pub day_is : teller.day ≡ day
  pub whole : teller.lines ≡ floor.journal.history
  pub opened : IsFor day floor
