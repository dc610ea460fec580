use Rattle.std.proofs.Common.{◌≡◌, ◌≤◌, ◌*◌, ◌^◌, take}
use Rattle.std.specs.Prelude.{sum_by}
use Rattle.machine.specs.Stages.Intake.{amount_of}
use Rattle.rule_book.proofs.batches.sum_of.Given as goal

abbrev pub invariant-loop-entry : goal.invariant-loop-entry
invariant-loop-entry l = record { sum : l.sum ≡ sum_by amount_of (take l.entry-index l.entries); small : l.sum ≤ 10 ^ 18 * l.entry-index }
