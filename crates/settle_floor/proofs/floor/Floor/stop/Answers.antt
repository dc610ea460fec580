use Rattle.std.proofs.Common.{◌<◌, [], ◌∷◌, subst, sym}
use Rattle.machine.specs.Legal.{IsLegal}
use Rattle.machine.specs.Telling.History.{clock}
use Rattle.live_order.specs.Longer.{longer}
use Rattle.settle_floor.specs.Floors.{IsFor, OnFloor, entries_left, messages_left}
use Rattle.settle_floor.proofs.RoomFacts.{stop_for}
use Rattle.settle_floor.proofs.floor.Floor.stop.Goals as goal

pub returns-clause-opened : goal.returns-clause-opened
returns-clause-opened c = λ day low rises lawful was.
    let old = c.self.inside.lines in
    let rise = subst (λ (f : OnFloor). clock f.journal.history < c.args.time) (sym c.self.view_is) rises in
    let legal = subst (λ (f : OnFloor). IsLegal (longer day [] (c.args.time ∷ [])) f.journal.history) (sym c.self.view_is) lawful in
    let opened = subst (IsFor day) (sym c.self.view_is) was in
    stop_for day c.args.time old c.stop.new.self legal opened c.stop.ensures.journal (c.stop.ensures.places (messages_left day) (entries_left day) opened.room.places) (c.stop.ensures.index day old.journal.history low rise legal opened.index)
