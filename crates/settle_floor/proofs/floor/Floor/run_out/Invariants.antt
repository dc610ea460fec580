use Rattle.std.proofs.Common.{◌≡◌}
use Rattle.machine.specs.Orders.Bounds.{left}
use Rattle.machine.specs.Orders.Order.{to_end}
use Rattle.settle_floor.specs.Floors.{AtWork}
use Rattle.settle_floor.proofs.floor.Floor.run_out.Given as goal

abbrev pub invariant-rounds : goal.invariant-rounds
invariant-rounds g l =
    record { same : to_end l.setting.day l.self.journal.history ≡ to_end l.setting.day l.initial.self.journal.history; at_work : AtWork l.setting.day l.self (g.T.Holdings.holdings l.till) }

abbrev pub decreases-rounds : goal.decreases-rounds
decreases-rounds g l = left l.setting.day l.self.journal.history
