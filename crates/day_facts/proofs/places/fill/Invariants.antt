use Rattle.std.proofs.Common.{◌≡◌, ◌+◌, ◌++◌, None, map}
use Rattle.std.specs.Prelude.{vec_capacity, vec_len}
use Rattle.std.specs.List.{range_with_len}
use Rattle.day_facts.proofs.places.fill.Given as goal

abbrev pub invariant-loop-k : goal.invariant-loop-k
invariant-loop-k l = record {
  items : l.items.items ≡ l.initial.items.items ++ map (λ k. None) (range_with_len 0 l._k);
  len : vec_len l.items ≡ vec_len l.initial.items + l._k;
  capacity : vec_capacity l.items ≡ vec_capacity l.initial.items;
}
