-- What holds of the reasons of items.
use Rattle.std.specs.Prelude.{ℕ, ◌≡◌, true, Some, is_some}
use Rattle.batch_records.specs.DayRecord.{Day}
use Rattle.commit_journal.specs.declared.line.Want.{Want}
use Rattle.commit_journal.specs.Line.{History}
use Rattle.machine.specs.Legal.{IsLegal}
use Rattle.machine.specs.Making.Lines.{line_of}
use Rattle.machine.specs.Stages.Pending.{is_pending, item}
use Rattle.machine.specs.Stages.Phases.{phase}
use Rattle.machine.specs.Words.{is_empty}
use Rattle.day_reasons.specs.Told.{item_text}
use Rattle.day_reasons.specs.Waits.{is_unfinished, waiting_want}

-- an item that waits is told with a reason exactly while the machine makes no line of the want that would settle it
abbrev pub ReasonsWhileUnmade : Type 0
ReasonsWhileUnmade = (day : Day) (J : History) (n k : ℕ) (want : Want) → waiting_want day J n k ≡ Some want → is_empty (item_text day J n k) ≡ is_some (line_of day J want)

-- no pending item is passed over: its message is told of with its items, and it waits
abbrev pub PendingItemsWait : Type 0
PendingItemsWait =
    (day : Day) (J : History) (n k : ℕ) → IsLegal day J → is_pending day J (item n k) ≡ true → (is_unfinished (phase day J n) ≡ true) × (is_some (waiting_want day J n k) ≡ true)
