use Rattle.std.proofs.Common.{◌≡◌, ◌-◌, ◌++◌}
use Rattle.std.specs.Prelude.{filter, nat_eq, slice_index}
use Rattle.std.specs.List.{range_with_len}
use Rattle.lane_workers.proofs.lanes.add_messages.Given as goal

-- those below n are added
abbrev pub invariant-loop-n : goal.invariant-loop-n
invariant-loop-n l = l.order.items ≡ l.initial.order.items ++ filter (λ n. nat_eq (slice_index l.lanes (n - 1)) l.lane) (range_with_len l.first (l.n - l.first))
