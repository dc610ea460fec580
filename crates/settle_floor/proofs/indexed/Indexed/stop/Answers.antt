use Rattle.std.proofs.Common.{subst, sym}
use Rattle.live_order.proofs.Runs.Speaking.{speaks}
use Rattle.day_facts.proofs.Longer.{stop_facts}
use Rattle.pending_items.proofs.Longer.{stop_pending}
use Rattle.due_items.proofs.Longer.{stop_due}
use Rattle.ready_items.proofs.Longer.{stop_ready}
use Rattle.settle_floor.specs.Floors.{IsIndex, OnFloor}
use Rattle.settle_floor.proofs.indexed.Indexed.stop.Goals as goal

pub returns-clause-index : goal.returns-clause-index
returns-clause-index c = λ day J low rise legal there.
    let index = subst (λ (f : OnFloor). IsIndex day J f.index) (sym c.self.view_is) there in
    record {
      stands = stop_facts day c.args.time J c.self.inside.told.facts rise legal index.stands;
      queued = stop_pending day c.args.time J c.self.inside.items.pending rise legal index.queued;
      due = stop_due day c.args.time J c.self.inside.items.due rise legal index.due;
      ready = stop_ready day c.args.time J c.self.inside.items.ready rise legal index.ready;
      stops = c.stop.ensures.stops day J low (speaks day J index.stands.legal) index.stops;
    }
