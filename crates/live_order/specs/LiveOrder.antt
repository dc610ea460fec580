-- The order in which a day is settled while its file still comes in.
use Rattle.std.specs.Prelude.{ℕ, ◌+◌, ◌-◌, Bool, true, false, List, [], ◌∷◌, ◌++◌, unwrap_or, nat_le, length, take, map, fold}
use Rattle.std.specs.List.{range_with_len, count_by}
use Rattle.batch_records.specs.DayRecord.{Day}
use Rattle.batch_records.specs.declared.day.Message.{Message}
use Rattle.commit_journal.specs.declared.line.Want.TheVariants as wants
use Rattle.commit_journal.specs.Line.{History}
use Rattle.machine.specs.Words.{numbered}
use Rattle.machine.specs.Telling.History.{clock}
use Rattle.machine.specs.Orders.Bounds.{left}
use Rattle.machine.specs.Orders.Order.{append, until, quiet, lap, to_end}

-- ---- what comes in

-- message n comes in, the r-th stated stop comes in, or the end of the file
pub data Event : Type 0 where
  Arrives : ℕ → Event
  Stop : ℕ → Event
  Over : Event

-- the stops after the first r, up to the last one
abbrev pub stops_between : ℕ → ℕ → List Event
stops_between r last = map Stop (range_with_len (r + 1) (last - r))

-- from message n on, after r stops: before each message the stops that stand before it, then the stops that are left
abbrev pub events_from : ℕ → ℕ → ℕ → List Message → List Event
events_from last r n [] = stops_between r last ++ (Over ∷ [])
events_from last r n (m ∷ ms) = stops_between r m.round ++ (Arrives n ∷ events_from last m.round (n + 1) ms)

-- of a day, in file order
unfoldable pub events : Day → List Event
events day = events_from (length day.stops) 0 1 day.messages

-- ---- the day as far as it has come in

abbrev pub is_arrival : Event → Bool
is_arrival (Arrives n) = true
is_arrival _ = false

abbrev pub is_stop : Event → Bool
is_stop (Stop r) = true
is_stop _ = false

-- the day with its setup, and the messages and stops of its first k events
unfoldable pub cut : Day → ℕ → Day
cut day k = record day {
  messages = take (count_by is_arrival (take k (events day))) day.messages;
  stops = take (count_by is_stop (take k (events day))) day.stops;
}

-- ---- what is done at each event

-- the r-th stated stop
abbrev pub stop_at : Day → ℕ → ℕ
stop_at day r = unwrap_or (numbered day.stops r) 0

abbrev pub has_reached : ℕ → History → Bool
has_reached time J = nat_le time (clock J)

-- turns until the clock has come to a time
unfoldable pub laps_to : Day → ℕ → History → History
laps_to day time J = until (has_reached time) (lap day) (left day J) J

-- while the clock is below a time: the Time line, and then what is ready. Each Time line is at least a second later, so as many turns as
-- there are seconds suffice
unfoldable pub times_to : Day → ℕ → History → History
times_to day time J = until (has_reached time) (λ K. quiet day (append day K wants.Time)) time J

-- a message that comes in is taken, and at a stop the clock moves to it, and then the items settle; after the last one the day is ended
abbrev pub live_step : Day → History → Event → History
live_step day J (Arrives n) = quiet day (append day J (wants.In n))
live_step day J (Stop r) = quiet day (laps_to day (stop_at day r) J)
live_step day J Over = to_end day J

-- from J on, after the first k events
unfoldable pub live : Day → ℕ → History → History
live day k J = fold (live_step day) J (take k (events day))

-- after all of them
unfoldable pub live_journal : Day → History
live_journal day = fold (live_step day) [] (events day)
