use Rattle.std.proofs.Common.{◌+◌, ◌-◌, ◌*◌}
use Rattle.lane_workers.proofs.workers.+fn-work_lanes-join+arg2+fn-work_lanes-join+arg3+work_lanes.Given as goal

abbrev pub decreases-join+arg2 : goal.decreases-join+arg2
decreases-join+arg2 g l = 2 * (l.middle - l.pass.lane) + 1

abbrev pub decreases-join+arg3 : goal.decreases-join+arg3
decreases-join+arg3 g l = 2 * (l.end - l.other.lane) + 1

abbrev pub decreases-work_lanes : goal.decreases-work_lanes
decreases-work_lanes g l = 2 * (l.end - l.pass.lane)
