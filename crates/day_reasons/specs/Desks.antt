-- What is asked of a desk, and of the list for the moves of a line.
use Rattle.std.specs.Prelude.{ℕ, ◌≡◌, Bool, true, []}
use Rattle.std.specs.List.{list_all}
use Rattle.batch_records.specs.DayRecord.{Day}
use Rattle.commit_journal.specs.declared.move_list.TheConstants.{MAX_MOVES}
use Rattle.commit_journal.specs.Kept.{MovesInRoom}
use Rattle.machine.specs.Records.Setup.{account_numbers}

-- the balances of all accounts are at hand
abbrev pub HoldsAll : (ℕ → Bool) → Day → Type 0
HoldsAll held day = list_all held (account_numbers day) ≡ true

-- no moves, and room for those of a line
abbrev pub clear : MovesInRoom
clear = record { moves = []; room = MAX_MOVES }
