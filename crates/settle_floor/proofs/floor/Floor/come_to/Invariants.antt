use Rattle.std.proofs.Common.{◌≡◌}
use Rattle.machine.specs.Orders.Bounds.{left}
use Rattle.live_order.specs.LiveOrder.{laps_to}
use Rattle.settle_floor.specs.Floors.{AtWork}
use Rattle.settle_floor.proofs.floor.Floor.come_to.Given as goal

abbrev pub invariant-laps : goal.invariant-laps
invariant-laps g l =
    record { same : laps_to l.setting.day l.time l.self.journal.history ≡ laps_to l.setting.day l.time l.initial.self.journal.history; at_work : AtWork l.setting.day l.self (g.T.Holdings.holdings l.till) }

abbrev pub decreases-laps : goal.decreases-laps
decreases-laps g l = left l.setting.day l.self.journal.history
