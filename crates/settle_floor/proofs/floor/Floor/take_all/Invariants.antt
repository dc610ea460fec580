use Rattle.std.proofs.Common.{◌≡◌}
use Rattle.machine.specs.Orders.Order.{one_scan, take_step}
use Rattle.settle_floor.specs.Floors.{AtWork}
use Rattle.settle_floor.proofs.floor.Floor.take_all.Given as goal

abbrev pub invariant-loop-n : goal.invariant-loop-n
invariant-loop-n g l =
    record { lines : l.self.journal.history ≡ one_scan (take_step l.setting.day) l.initial.self.journal.history l.n; at_work : AtWork l.setting.day l.self (g.T.Holdings.holdings l.till) }
