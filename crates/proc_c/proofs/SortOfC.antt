-- A batch of procedure C waits for its cycle.
use Rattle.std.proofs.Common.{◌≡◌, ℕ, true, is_none}
use Rattle.cash_amounts.specs.declared.records.Procedure.TheVariants.{C}
use Rattle.batch_records.specs.DayRecord.{Day}
use Rattle.commit_journal.specs.Line.{History}
use Rattle.machine.specs.Records.Messages.{sort_of, is_c, sender}
use Rattle.machine.specs.Stages.Intake.{cycle_is_wrong}
use Rattle.machine.specs.Telling.Facts.{open_cycle}
use Rattle.rule_book.proofs.Codes.{asks_for_cycle}
use Rattle.machine.proofs.SortFacts.{c_is}

pub asks_for_a_cycle : (day : Day) (J : History) (n : ℕ) → is_c (sort_of day n) ≡ true → cycle_is_wrong day J n ≡ is_none (open_cycle day (sender day n) J)
asks_for_a_cycle day J n h = asks_for_cycle C day J n (c_is (sort_of day n) h)
