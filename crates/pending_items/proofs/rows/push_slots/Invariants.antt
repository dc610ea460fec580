use Rattle.std.proofs.Common.{◌≡◌, ◌≤◌, ◌+◌, ◌++◌, None, replicate}
use Rattle.std.specs.Prelude.{vec_capacity, vec_len}
use Rattle.pending_items.proofs.rows.push_slots.Given as goal

abbrev pub invariant-loop-i : goal.invariant-loop-i
invariant-loop-i l = record {
  slots : l.slots.items ≡ l.initial.slots.items ++ replicate l._i None;
  len : vec_len l.slots ≡ vec_len l.initial.slots + l._i;
  capacity : vec_capacity l.initial.slots ≤ vec_capacity l.slots;
}
