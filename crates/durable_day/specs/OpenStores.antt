-- What an open store keeps: its floor, till and disk agree.
use Rattle.std.specs.Prelude.{ℕ, List}
use Rattle.cash_amounts.specs.Numbers.{numbered}
use Rattle.batch_records.specs.DayRecord.{Day}
use Rattle.settle_floor.specs.Floors.{AtWork, OnFloor}
use Rattle.durable_day.specs.Stores.{IsDurable}

pub record IsOpen {D : Type 0} (seen : D → List ℕ) (image : D → List ℕ → Type 0) (day : Day) (floor : OnFloor) (till : List ℕ) (end : ℕ) (disk : D) : Type 0 where
  pub at_work : AtWork day floor (numbered till)
  pub durable : IsDurable seen image floor.journal.history end disk
