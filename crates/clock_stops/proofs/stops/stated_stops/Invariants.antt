use Rattle.std.proofs.Common.{◌≡◌, ◌+◌, false, replicate, take}
use Rattle.std.specs.Prelude.{fold}
use Rattle.period_calendar.specs.declared.time.TheConstants.{MIDNIGHT}
use Rattle.clock_stops.specs.Entered.{with_stop}
use Rattle.clock_stops.proofs.stops.stated_stops.Given as goal

abbrev pub invariant-loop-stop : goal.invariant-loop-stop
invariant-loop-stop l = l.times ≡ fold with_stop (replicate (MIDNIGHT + 1) false) (take l.stop-index l.stops)
