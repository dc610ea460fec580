-- Who keeps an item back: the foremost of those that stand before it.
use Rattle.std.specs.Prelude.{ℕ, if◌then◌else◌, Option, Some, None, fold}
use Rattle.batch_records.specs.DayRecord.{Day}
use Rattle.commit_journal.specs.Line.{History}
use Rattle.machine.specs.declared.answers.Item.{Item}
use Rattle.machine.specs.Records.Messages.{message_numbers, item_numbers}
use Rattle.machine.specs.Stages.Pending.{item, standing, is_ahead, is_blocker}

-- the one that is ahead
abbrev pub ahead_of : Day → History → Option Item → Item → Item
ahead_of day J None y = y
ahead_of day J (Some best) y = if is_ahead (standing day J y) (standing day J best) then y else best

-- the foremost blocker so far, once y has been looked at
abbrev pub pick : Day → History → Item → ℕ → Option Item → Item → Option Item
pick day J x a best y = if is_blocker day J x a y then Some (ahead_of day J best y) else best

unfoldable pub pick_of : Day → History → Item → ℕ → Option Item → ℕ → Option Item
pick_of day J x a best n = fold (λ found k. pick day J x a found (item n k)) best (item_numbers day n)

-- among the pending items on the account that stand before x, the foremost
unfoldable pub first_blocker : Day → History → Item → ℕ → Option Item
first_blocker day J x a = fold (pick_of day J x a) None (message_numbers day)
