use Rattle.std.proofs.Common.{◌≡◌, ◌≤◌, ◌-◌}
use Rattle.scan_laws.specs.Numbers.{item_count}
use Rattle.scan_laws.specs.Runs.{scan_from}
use Rattle.settle_floor.specs.Floors.{AtWork}
use Rattle.settle_floor.proofs.floor.Floor.scan.Given as goal

abbrev pub invariant-items : goal.invariant-items
invariant-items g l =
    record {
      same : scan_from l.setting.day l.self.journal.history l.from ≡ scan_from l.setting.day l.initial.self.journal.history 0;
      low : l.from ≤ item_count l.setting.day;
      at_work : AtWork l.setting.day l.self (g.T.Holdings.holdings l.till);
    }

abbrev pub decreases-items : goal.decreases-items
decreases-items g l = item_count l.setting.day - l.from
