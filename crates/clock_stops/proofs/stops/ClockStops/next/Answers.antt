use Rattle.std.proofs.Common.{subst, sym}
use Rattle.clock_stops.specs.Kept.{KeepsStops}
use Rattle.clock_stops.proofs.NextFacts.{at_midnight, next_in_set, none_in_set}
use Rattle.clock_stops.proofs.stops.ClockStops.next.Goals as goal

pub returns-then-at-ge-MIDNIGHT : goal.returns-then-at-ge-MIDNIGHT
returns-then-at-ge-MIDNIGHT c = λ day J keeps e. at_midnight day J _ c.args.at keeps e c.if-at-ge-MIDNIGHT.true

pub returns-in-Some : goal.returns-in-Some
returns-in-Some c = λ day J keeps e. next_in_set day J c.self.inside.times c.args.at c.in-Some.time (subst (KeepsStops day J) (sym c.self.view_is) keeps) e c.in-Some.ensures.next

pub returns-in-None : goal.returns-in-None
returns-in-None c = λ day J keeps e. none_in_set day J c.self.inside.times c.args.at (subst (KeepsStops day J) (sym c.self.view_is) keeps) e c.in-None.ensures.next
