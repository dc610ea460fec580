use Rattle.std.proofs.Common.{◌≡◌, sum_by, take}
use Rattle.as_client.specs.BatchOf.{owed}
use Rattle.as_client.proofs.batch.all_owed.Given as goal

abbrev pub invariant-loop-position : goal.invariant-loop-position
invariant-loop-position l = l.sum ≡ sum_by (λ p. owed p.sum) (take l.position-index l.positions)
