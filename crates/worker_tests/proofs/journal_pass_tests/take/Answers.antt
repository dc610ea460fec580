use Rattle.std.proofs.Common.{ap}
use Rattle.commit_journal.specs.Kept.{Kept}
use Rattle.journal_pass.proofs.Beginnings.{begins-pushed}
use Rattle.worker_tests.proofs.journal_pass_tests.take.Goals as goal

pub count-requires-clause-begins : goal.count-requires-clause-begins
count-requires-clause-begins c = begins-pushed _ _ _ _ (ap (λ (k : Kept). k.history) c.push.ensures) c.requires.whole
