use Rattle.std.proofs.Common.{◌≡◌, map}
use Rattle.std.specs.List.{range_with_len}
use Rattle.day_chain.specs.Summing.{blank}
use Rattle.day_chain.proofs.sums.new_sums.Given as goal

abbrev pub invariant-loop-before : goal.invariant-loop-before
invariant-loop-before l = l.sums.items ≡ map (blank l.day) (range_with_len 1 l.before)
