use Rattle.std.proofs.Common.{◌≡◌, take}
use Rattle.std.specs.Prelude.{sum_by}
use Rattle.rule_book.specs.Owed.{size_of_b}
use Rattle.rule_book.proofs.debtor_sums.b_entries.Given as goal

abbrev pub invariant-loop-before : goal.invariant-loop-before
invariant-loop-before l = l.total ≡ sum_by size_of_b (take l.before l.day.messages)
