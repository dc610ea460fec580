use Rattle.std.proofs.Common.{◌≡◌, ◌<◌, ◌≤◌, ℕ, length, take, true}
use Rattle.std.specs.Prelude.{sum_by}
use Rattle.machine.specs.Making.Lines.{gross}
use Rattle.machine.specs.Records.Messages.{is_b, sort_of}
use Rattle.rule_book.specs.Owed.{owed, size_of_b}
use Rattle.rule_book.proofs.debtor_sums.DebtorSums.build.Given as goal

abbrev pub invariant-loop-before : goal.invariant-loop-before
invariant-loop-before l = record {
  entered : (m a : ℕ) → m ≤ l.before → is_b (sort_of l.day m) ≡ true → owed l.debts m a ≡ gross l.day m a;
  free : (m a : ℕ) → l.before < m → owed l.debts m a ≡ 0;
  count : length l.debts.keys ≤ sum_by size_of_b (take l.before l.day.messages);
  most : l.debts.most ≡ sum_by size_of_b l.day.messages;
}
