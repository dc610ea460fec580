use Rattle.std.proofs.Common.{◌∙◌, ap, false, replicate, ℕ}
use Rattle.clock_stops.proofs.NotedFacts.{none_kept}
use Rattle.clock_stops.proofs.stops.ClockStops.empty.Goals as goal

pub returns-clause-none : goal.returns-clause-none
returns-clause-none c = c.in_ok-times.ensures ∙ ap (λ (n : ℕ). replicate n false) c.seconds.ensures

pub returns-clause-keeps : goal.returns-clause-keeps
returns-clause-keeps c = λ day. none_kept day _ _ c.seconds.ensures c.in_ok-times.ensures
