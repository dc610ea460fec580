-- What the end of a round is made on.
use Rattle.std.specs.Prelude.{◌≡◌, ℕ, true, List}
use Rattle.atomic_table.specs.Seated.{TableId}
use Rattle.batch_records.specs.DayRecord.{Day}
use Rattle.cash_amounts.specs.Numbers.{numbered}
use Rattle.journal_pass.specs.Known.{Known}
use Rattle.settle_floor.specs.Floors.{has_all}
use Rattle.settle_floor.specs.Tills.{KeepsBalances}

-- the pass is of this table and day, and the items are the balances of all accounts of the day over what it has seen
pub record IsRoundTill (table : TableId) (day : Day) (pass : Known) (items : List ℕ) : Type 0 where
  pub table_is : pass.table ≡ table
  pub day_is : pass.day ≡ day
  pub all_there : has_all (numbered items) day ≡ true
  pub balanced : KeepsBalances (numbered items) day pass.lines
