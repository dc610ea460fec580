use Rattle.std.proofs.Common.{◌≡◌, map}
use Rattle.std.specs.List.{range_with_len}
use Rattle.lane_workers.specs.Stints.{first_of}
use Rattle.lane_workers.proofs.lanes.all_firsts.Given as goal

abbrev pub invariant-loop-round : goal.invariant-loop-round
invariant-loop-round l = l.firsts.items ≡ map (first_of l.setting.day) (range_with_len 0 l.round)
