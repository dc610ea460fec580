use Rattle.std.proofs.Common.{◌≡◌, take, sum_by}
use Rattle.machine.specs.Stages.Intake.{amount_of}
use Rattle.trial_day.proofs.entries.sum_of.Given as goal

abbrev pub invariant-loop-entry : goal.invariant-loop-entry
invariant-loop-entry l = l.sum ≡ sum_by amount_of (take l.entry-index l.entries)
