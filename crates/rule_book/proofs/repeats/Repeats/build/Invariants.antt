use Rattle.rule_book.proofs.RepeatLemmas.{AreFirst}
use Rattle.rule_book.proofs.repeats.Repeats.build.Given as goal

abbrev pub invariant-loop-i : goal.invariant-loop-i
invariant-loop-i l = AreFirst l.day l.i l.repeats
