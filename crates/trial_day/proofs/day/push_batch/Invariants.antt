use Rattle.std.proofs.Common.{◌≡◌, ◌++◌, ◌∷◌, []}
use Rattle.batch_records.specs.Flat.{with_entries}
use Rattle.trial_day.proofs.day.push_batch.Given as goal

abbrev pub invariant-loop-entry : goal.invariant-loop-entry
invariant-loop-entry l = l.messages ≡ l.fn.messages ++ with_entries l.fn.message l.yielded ∷ []
