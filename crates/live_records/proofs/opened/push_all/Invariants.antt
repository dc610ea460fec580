use Rattle.live_records.proofs.OpenFacts.{IsMoving}
use Rattle.live_records.proofs.opened.push_all.Given as goal

abbrev pub invariant-loop-entry : goal.invariant-loop-entry
invariant-loop-entry l = IsMoving l.initial.day l.day l.entries l.entry-index
