use Rattle.std.proofs.Common.{◌≤◌, ◌-◌}
use Rattle.scan_laws.specs.Numbers.{item_count}
use Rattle.settle_floor.proofs.FirstReady.{RestBelow}
use Rattle.settle_floor.proofs.ready.first_due_message.Given as goal

-- nothing is ready of what was passed
abbrev pub invariant-items : goal.invariant-items
invariant-items g l = record {
  low : l.from ≤ item_count (g.D.Desk.day l.desk);
  before : RestBelow (g.D.Desk.day l.desk) (g.D.Desk.past l.desk) l.from;
}

abbrev pub decreases-items : goal.decreases-items
decreases-items g l = item_count (g.D.Desk.day l.desk) - l.from
