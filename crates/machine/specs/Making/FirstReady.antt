-- The first want that is ready.
use Rattle.std.specs.Prelude.{ℕ, option_map, Option, Some, None}
use Rattle.std.specs.List.{find}
use Rattle.batch_records.specs.DayRecord.{Day}
use Rattle.commit_journal.specs.declared.line.Want.{Want}
use Rattle.commit_journal.specs.declared.line.Want.TheVariants as wants
use Rattle.commit_journal.specs.Line.{History}
use Rattle.machine.specs.Records.Setup.{account_numbers}
use Rattle.machine.specs.Records.Messages.{message_numbers, item_numbers}
use Rattle.machine.specs.Making.Lines.{may_sweep, item_want, is_ready_item, is_ready_message}

-- the first want that is ready: by message and entry, then the sweeps by account
abbrev pub first_ready_item : Day → History → ℕ → Option Want
first_ready_item day J n = option_map (item_want day J n) (find (is_ready_item day J n) (item_numbers day n))

abbrev pub first_ready_of : Day → History → Option ℕ → Option Want
first_ready_of day J None = option_map wants.Sweep (find (may_sweep day J) (account_numbers day))
first_ready_of day J (Some n) = first_ready_item day J n

unfoldable pub first_ready : Day → History → Option Want
first_ready day J = first_ready_of day J (find (is_ready_message day J) (message_numbers day))
