use Rattle.std.proofs.Common.{◌≡◌, ◌≤◌, ◌+◌, ◌++◌, None, replicate}
use Rattle.std.specs.Prelude.{vec_capacity, vec_len}
use Rattle.payment_queue.proofs.rows.push_rows.Given as goal

abbrev pub invariant-loop-i : goal.invariant-loop-i
invariant-loop-i l = record {
  rows : l.rows.items ≡ l.initial.rows.items ++ replicate l._i None;
  len : vec_len l.rows ≡ vec_len l.initial.rows + l._i;
  capacity : vec_capacity l.initial.rows ≤ vec_capacity l.rows;
}
