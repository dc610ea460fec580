use Rattle.std.proofs.Common.{◌≡◌}
use Rattle.machine.specs.Orders.Bounds.{left}
use Rattle.settlement_laws.proofs.DayEnd.PlainRuns.{laps}
use Rattle.settle_floor.specs.Floors.{AtWork}
use Rattle.settle_floor.proofs.floor.Floor.run_round.Given as goal

abbrev pub invariant-laps : goal.invariant-laps
invariant-laps g l =
    record { same : laps l.setting.day l.first l.self.journal.history ≡ laps l.setting.day l.first l.initial.self.journal.history; at_work : AtWork l.setting.day l.self (g.T.Holdings.holdings l.till) }

abbrev pub decreases-laps : goal.decreases-laps
decreases-laps g l = left l.setting.day l.self.journal.history
