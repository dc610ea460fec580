use Rattle.std.proofs.Common.{◌≡◌, ◌≤◌, ◌+◌, ◌++◌, map}
use Rattle.std.specs.Prelude.{vec_capacity, vec_len}
use Rattle.std.specs.List.{range_with_len}
use Rattle.due_items.proofs.row.push_items.Given as goal

abbrev pub invariant-loop-k : goal.invariant-loop-k
invariant-loop-k l = record {
  messages : l.messages.items ≡ l.initial.messages.items ++ map (λ k. l.n) (range_with_len 0 l._k);
  len : vec_len l.messages ≡ vec_len l.initial.messages + l._k;
  capacity : vec_capacity l.initial.messages ≤ vec_capacity l.messages;
}
