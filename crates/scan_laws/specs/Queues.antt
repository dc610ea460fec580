-- The queue of an account that no item enters or leaves.
use Rattle.std.specs.Prelude.{◌≡◌, ℕ, ◌≤◌, true, length}
use Rattle.batch_records.specs.DayRecord.{Day}
use Rattle.commit_journal.specs.Line.{History}
use Rattle.machine.specs.Records.Messages.{entries}
use Rattle.machine.specs.Stages.Pending.{item, is_pending, stands_on}

-- each item of the day that stands on the account is pending over K where it is over J
abbrev pub HasSameQueue : Day → History → History → ℕ → Type 0
HasSameQueue day K J a = (n k : ℕ) → 1 ≤ n → n ≤ length day.messages → k ≤ length (entries day n) → stands_on day a (item n k) ≡ true → is_pending day K (item n k) ≡ is_pending day J (item n k)
