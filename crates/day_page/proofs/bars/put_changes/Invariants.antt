use Rattle.std.proofs.Common.{◌≡◌, ◌++◌, drop}
use Rattle.machine.specs.declared.answers.Phase.TheVariants as phases
use Rattle.day_page.specs.Bars.{changes_from}
use Rattle.day_page.proofs.bars.put_changes.Given as goal

abbrev pub invariant-loop-mark : goal.invariant-loop-mark
invariant-loop-mark l = l.changes.items ++ changes_from l.n l.before (drop l.mark-index l.marks) ≡ l.initial.changes.items ++ changes_from l.n phases.Untaken l.marks
