use Rattle.std.proofs.Common.{◌≡◌, ◌+◌, length, map}
use Rattle.std.specs.List.{range_with_len}
use Rattle.pending_items.specs.Ends.{next_end}
use Rattle.pending_items.proofs.ends.first_ends.Given as goal

abbrev pub invariant-loop-n : goal.invariant-loop-n
invariant-loop-n l = record {
  times : l.ends.times ≡ map (λ i. next_end l.setting.day i 0) (range_with_len 0 l.n);
  room : l.ends.room + l.n ≡ length l.setting.day.messages + 1;
}
