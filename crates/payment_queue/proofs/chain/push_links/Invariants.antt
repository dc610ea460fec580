use Rattle.std.proofs.Common.{◌≡◌, ◌≤◌, ◌+◌, ◌++◌, None, replicate}
use Rattle.std.specs.Prelude.{vec_capacity, vec_len}
use Rattle.payment_queue.proofs.chain.push_links.Given as goal

abbrev pub invariant-loop-i : goal.invariant-loop-i
invariant-loop-i l = record {
  links : l.links.items ≡ l.initial.links.items ++ replicate l._i None;
  len : vec_len l.links ≡ vec_len l.initial.links + l._i;
  capacity : vec_capacity l.initial.links ≤ vec_capacity l.links;
}
