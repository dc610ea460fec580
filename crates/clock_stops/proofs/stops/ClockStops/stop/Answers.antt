use Rattle.std.proofs.Common.{subst, sym}
use Rattle.clock_stops.specs.Kept.{KeepsStops}
use Rattle.clock_stops.proofs.LongerFacts.{stop_comes}
use Rattle.clock_stops.proofs.stops.ClockStops.stop.Goals as goal

pub returns-clause-stops : goal.returns-clause-stops
returns-clause-stops c = λ day J low speaks keeps.
    stop_comes day J c.args.time c.self.inside.times _ c.enter.ensures low speaks (subst (KeepsStops day J) (sym c.self.view_is) keeps)
