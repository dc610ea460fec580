use Rattle.std.proofs.Common.{◌≡◌, ◌+◌, map}
use Rattle.std.specs.List.{range_with_len}
use Rattle.pending_items.specs.Numbers.{start}
use Rattle.pending_items.proofs.numbers.new_starts.Given as goal

abbrev pub invariant-loop-before : goal.invariant-loop-before
invariant-loop-before l = record {
  starts : l.starts.items ≡ map (start l.setting.day) (range_with_len 1 l.before);
  next : l.next ≡ start l.setting.day (l.before + 1);
}
