-- The journal that is made of a day.
use Rattle.std.specs.Prelude.{ℕ, ◌≡◌, true}
use Rattle.batch_records.specs.DayRecord.{Day}
use Rattle.commit_journal.specs.Line.{History}
use Rattle.machine.specs.Legal.{IsLegal, is_complete}
use Rattle.machine.specs.Laws.{Laws}
use Rattle.machine.specs.Orders.Order.{plain}

-- Each line of the journal is the one that the machine makes after the lines before it, its last line is the End line, and it
-- keeps the laws. Without workers it is the one of the written order.
pub record IsOfDay (workers : ℕ) (day : Day) (journal : History) : Type 0 where
  pub written_order : workers ≡ 0 → journal ≡ plain day
  pub legal : IsLegal day journal
  pub complete : is_complete journal ≡ true
  pub laws : Laws day journal
