-- For a batch of B the words of the machine are those of B alone.
use Rattle.std.proofs.Common.{◌≡◌, ℕ, true, ap}
use Rattle.batch_records.specs.DayRecord.{Day}
use Rattle.commit_journal.specs.Line.{History}
use Rattle.machine.specs.Records.Messages.{BatchB, sort_of, is_b}
use Rattle.machine.specs.Stages.Phases.{phase, is_open}
use Rattle.machine.specs.Stages.Pending.{item, is_pending, pending_as}
use Rattle.machine.proofs.SortFacts.{b_is}

pub sort-is : (day : Day) (n : ℕ) → is_b (sort_of day n) ≡ true → sort_of day n ≡ BatchB
sort-is day n h = b_is (sort_of day n) h

-- ---- pending

pub pending-is : (day : Day) (J : History) (n : ℕ) → is_b (sort_of day n) ≡ true → is_pending day J (item n 0) ≡ is_open (phase day J n)
unfolding is_pending
pending-is day J n h = ap (λ s. pending_as s day J n 0 (phase day J n)) (sort-is day n h)
