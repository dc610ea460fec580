use Rattle.std.proofs.Common.{◌+◌, ◌*◌}
use Rattle.lane_workers.specs.Stints.{HasStints}
use Rattle.lane_workers.proofs.lanes.Stints.add_round.Given as goal

abbrev pub invariant-loop-lane : goal.invariant-loop-lane
invariant-loop-lane l = HasStints l.setting.day l.workers (l.round * l.workers + l.lane) l.self
