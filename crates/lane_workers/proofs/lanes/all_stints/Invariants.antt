use Rattle.std.proofs.Common.{◌*◌}
use Rattle.lane_workers.specs.Stints.{HasStints}
use Rattle.lane_workers.proofs.lanes.all_stints.Given as goal

abbrev pub invariant-loop-round : goal.invariant-loop-round
invariant-loop-round l = HasStints l.setting.day l.workers (l.round * l.workers) l.stints
