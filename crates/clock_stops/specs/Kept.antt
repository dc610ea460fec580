-- That a set of times is that of a day and its lines.
use Rattle.std.specs.Prelude.{ℕ, ◌≡◌, ◌+◌, Bool, List, length}
use Rattle.period_calendar.specs.declared.time.TheConstants.{MIDNIGHT}
use Rattle.batch_records.specs.DayRecord.{Day}
use Rattle.commit_journal.specs.Line.{History}
use Rattle.number_set.specs.Members.{has}
use Rattle.clock_stops.specs.Stops.{is_stop_time}

-- the set has room for the seconds from 0 to midnight, and has just the times at which the clock may stop over the lines J: none of
-- these is above midnight
pub record KeepsStops (day : Day) (J : History) (times : List Bool) : Type 0 where
  pub size : length times ≡ MIDNIGHT + 1
  pub exact : (t : ℕ) → has times t ≡ is_stop_time day J t
