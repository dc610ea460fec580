use Rattle.std.proofs.Common.{◌∙◌, ap, subst, sym}
use Rattle.clock_stops.specs.Entered.{noted}
use Rattle.clock_stops.specs.Kept.{KeepsStops}
use Rattle.clock_stops.proofs.NotedFacts.{noted_kept}
use Rattle.clock_stops.proofs.stops.ClockStops.note.Goals as goal

pub returns : goal.returns
returns c = λ J l e legal keeps.
    let day = c.args.setting.now.day in
    noted_kept day J l c.self.inside.times _ c.args.setting.now.sound legal (subst (KeepsStops day J) (sym c.self.view_is) keeps)
    (c.note_line.ensures ∙ ap (λ h. noted day h c.self.inside.times) (sym e))
