use Rattle.std.proofs.Common.{◌+◌, length, subst, sym}
use Rattle.machine.specs.Records.Messages.{entries}
use Rattle.live_order.proofs.Runs.Speaking.{speaks}
use Rattle.clock_stops.proofs.LongerFacts.{message_comes}
use Rattle.live_order.specs.Coming.{StaysLegal}
use Rattle.settle_floor.specs.Floors.{HasPlaces, IsIndex, OnFloor}
use Rattle.settle_floor.proofs.indexed.Indexed.arrive.Goals as goal

pub returns-clause-places : goal.returns-clause-places
returns-clause-places c = λ messages more there.
    let places = subst (λ (f : OnFloor). HasPlaces (messages + 1) (more + length (entries c.args.setting.now.day c.args.n)) f.index) (sym c.self.view_is) there in
    let items = c.arrive-2.ensures.room messages more places.pending places.due places.ready in
    record { facts = c.arrive.ensures.room messages more places.facts; pending = items.0; due = items.1; ready = items.2 }

pub returns-clause-index : goal.returns-clause-index
returns-clause-index c = λ day m ms ss J next legal there.
    let index = subst (λ (f : OnFloor). IsIndex day J f.index) (sym c.self.view_is) there in
    let stay : StaysLegal day m J = record { before = index.stands.legal; after = legal } in
    let stands = c.arrive.ensures.day day m ms ss J next stay index.stands in
    let items = c.arrive-2.ensures.day day m ms ss J next stay stands index.queued index.due index.ready in
    record { stands = stands; queued = items.0; due = items.1; ready = items.2; stops = message_comes day m J _ (speaks day J index.stands.legal) index.stops }
