use Rattle.std.proofs.Common.{◌≡◌}
use Rattle.machine.specs.Orders.Bounds.{left}
use Rattle.machine.specs.Orders.Order.{quiet}
use Rattle.settle_floor.specs.Floors.{AtWork}
use Rattle.settle_floor.proofs.floor.Floor.quiet.Given as goal

abbrev pub invariant-scans : goal.invariant-scans
invariant-scans g l =
    record { same : quiet l.setting.day l.self.journal.history ≡ quiet l.setting.day l.initial.self.journal.history; at_work : AtWork l.setting.day l.self (g.T.Holdings.holdings l.till) }

abbrev pub decreases-scans : goal.decreases-scans
decreases-scans g l = left l.setting.day l.self.journal.history
