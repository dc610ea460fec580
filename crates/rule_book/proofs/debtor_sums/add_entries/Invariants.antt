use Rattle.std.proofs.Common.{◌≡◌, ◌+◌, ◌≤◌, ℕ, false, length}
use Rattle.std.specs.Prelude.{nat_eq}
use Rattle.rule_book.specs.Owed.{owed}
use Rattle.rule_book.proofs.Summing.{so_far}
use Rattle.rule_book.proofs.debtor_sums.add_entries.Given as goal

abbrev pub invariant-loop-before : goal.invariant-loop-before
invariant-loop-before l = record {
  own : (a : ℕ) → owed l.sums l.n a ≡ so_far l.day l.n a l.before;
  others : (m a : ℕ) → nat_eq l.n m ≡ false → owed l.sums m a ≡ owed l.initial.sums m a;
  count : length l.sums.keys ≤ length l.initial.sums.keys + l.before;
  most : l.sums.most ≡ l.initial.sums.most;
}
