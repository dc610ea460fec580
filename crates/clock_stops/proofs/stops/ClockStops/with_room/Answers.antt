use Rattle.std.proofs.Common.{◌∙◌, ap, false, refl, replicate, List, ℕ}
use Rattle.std.specs.Prelude.{fold}
use Rattle.clock_stops.specs.Entered.{with_stop}
use Rattle.clock_stops.proofs.NotedFacts.{first_kept}
use Rattle.clock_stops.proofs.stops.ClockStops.with_room.Goals as goal

pub returns : goal.returns
returns c =
    first_kept c.args.setting.now.day 86401 _ c.args.setting.now.sound refl
    (c.in_ok-stops.ensures ∙ ap (λ (stops : List ℕ). fold with_stop (replicate 86401 false) stops) c.stops.ensures)
