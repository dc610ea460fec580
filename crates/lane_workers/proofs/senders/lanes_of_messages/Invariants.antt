use Rattle.std.proofs.Common.{◌≡◌, map}
use Rattle.std.specs.List.{range_with_len}
use Rattle.lane_workers.specs.Senders.{lane_of}
use Rattle.lane_workers.proofs.senders.lanes_of_messages.Given as goal

abbrev pub invariant-loop-i : goal.invariant-loop-i
invariant-loop-i l = l.lanes.items ≡ map (lane_of l.setting.day l.workers) (range_with_len 1 l.i)
