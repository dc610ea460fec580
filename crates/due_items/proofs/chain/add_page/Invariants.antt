use Rattle.std.proofs.Common.{◌≡◌, ◌≤◌, ◌+◌, ℕ}
use Rattle.std.specs.Prelude.{slice_index_or, vec_capacity, vec_len}
use Rattle.due_items.proofs.chain.add_page.Given as goal

abbrev pub invariant-loop-i : goal.invariant-loop-i
invariant-loop-i l = record {
  same : (i : ℕ) → slice_index_or l.pages.items i 0 ≡ slice_index_or l.initial.pages.items i 0;
  long : vec_len l.pages ≡ vec_len l.initial.pages + l._i;
  capacity : vec_capacity l.initial.pages ≤ vec_capacity l.pages;
}
