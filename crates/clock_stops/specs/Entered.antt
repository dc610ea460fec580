-- A set of times with more of them entered.
use Rattle.std.specs.Prelude.{ℕ, Bool, true, List, Option, None, Some, if◌then◌else◌, slice_set}
use Rattle.batch_records.specs.DayRecord.{Day}
use Rattle.commit_journal.specs.declared.line.Head.{Head}
use Rattle.machine.specs.Records.Messages.{earliest, info_end, stated_end}
use Rattle.clock_stops.specs.Stops.{accepts_batch}

-- with a time, where the set has room for it
abbrev pub with_stop : List Bool → ℕ → List Bool
with_stop times t = slice_set times t true

abbrev pub with_end : Option ℕ → List Bool → List Bool
with_end None times = times
with_end (Some t) times = with_stop times t

-- with the times that message n states
abbrev pub with_ends : Day → ℕ → List Bool → List Bool
with_ends day n times = with_end (stated_end day n) (with_end (earliest day n) (with_end (info_end day n) times))

-- after a line of this head
abbrev pub noted : Day → Head → List Bool → List Bool
noted day head times = if accepts_batch day head then with_ends day head.msg times else times
