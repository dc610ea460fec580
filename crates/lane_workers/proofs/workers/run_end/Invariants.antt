use Rattle.std.proofs.Common.{◌-◌, ◌<◌, ◌≤◌, length}
use Rattle.lane_workers.proofs.workers.run_end.Given as goal

-- it is after the place, and within the stint
abbrev pub invariant-messages : goal.invariant-messages
invariant-messages l = (l.place < l.end) × (l.end ≤ length l.stint)

abbrev pub decreases-messages : goal.decreases-messages
decreases-messages l = length l.stint - l.end
