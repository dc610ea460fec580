use Rattle.std.proofs.Common.{◌+◌, [], ◌∷◌, length, refl, subst, sym}
use Rattle.machine.specs.Legal.{IsLegal}
use Rattle.machine.specs.Records.Messages.{entries}
use Rattle.live_order.specs.Longer.{longer}
use Rattle.settle_floor.specs.Floors.{IsFor, OnFloor}
use Rattle.settle_floor.specs.Room.{IsOpen}
use Rattle.settle_floor.proofs.RoomFacts.{fits_longer, for_day, room_longer}
use Rattle.settle_floor.proofs.floor.Floor.arrive.Goals as goal

pub returns-clause-places : goal.returns-clause-places
returns-clause-places c = λ day m ms ss messages more next lawful was.
    let old = c.self.inside.lines in
    let legal = subst (λ (f : OnFloor). IsLegal (longer day (m ∷ []) []) f.journal.history) (sym c.self.view_is) lawful in
    let is_open = subst (IsOpen day (messages + 1) (more + length (entries c.args.setting.now.day c.args.n))) (sym c.self.view_is) was in
    fits_longer c.args.setting.now.day c.args.n day m ms ss messages more old c.arrive.new.self next legal is_open.room c.arrive.ensures.journal
    (c.arrive.ensures.places messages more is_open.room.places) (c.arrive.ensures.index day m ms ss old.journal.history next legal is_open.index)

pub returns-clause-opened : goal.returns-clause-opened
returns-clause-opened c = λ day m ms ss next lawful low few was.
    let old = c.self.inside.lines in
    let legal = subst (λ (f : OnFloor). IsLegal (longer day (m ∷ []) []) f.journal.history) (sym c.self.view_is) lawful in
    let opened = subst (IsFor day) (sym c.self.view_is) was in
    let room = room_longer c.args.setting.now.day c.args.n day m ms ss old next low few opened in
    for_day (longer day (m ∷ []) []) _ _ c.arrive.new.self refl refl
    (fits_longer c.args.setting.now.day c.args.n day m ms ss _ _ old c.arrive.new.self next legal room c.arrive.ensures.journal
    (c.arrive.ensures.places _ _ room.places) (c.arrive.ensures.index day m ms ss old.journal.history next legal opened.index))
