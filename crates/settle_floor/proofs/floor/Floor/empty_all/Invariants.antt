use Rattle.std.proofs.Common.{◌≡◌}
use Rattle.machine.specs.Orders.Order.{one_scan, empty_step}
use Rattle.settle_floor.specs.Floors.{AtWork}
use Rattle.settle_floor.proofs.floor.Floor.empty_all.Given as goal

abbrev pub invariant-loop-a : goal.invariant-loop-a
invariant-loop-a g l =
    record { lines : l.self.journal.history ≡ one_scan (empty_step l.setting.day) l.initial.self.journal.history l.a; at_work : AtWork l.setting.day l.self (g.T.Holdings.holdings l.till) }
