-- What an entry takes or brings, where it is one of the side.
use Rattle.std.specs.Prelude.{ℕ, if◌then◌else◌, List}
use Rattle.batch_records.specs.DayRecord.{Day}
use Rattle.batch_records.specs.declared.day.Entry.{Entry}
use Rattle.liquidity_view.specs.declared.sides.Side.{Side}
use Rattle.liquidity_view.specs.Figures.{entry_share, is_entry_on}

abbrev pub share_on : Side → Day → List ℕ → ℕ → Entry → ℕ
share_on side day name n e = if is_entry_on side day n e then entry_share side day name e else 0
