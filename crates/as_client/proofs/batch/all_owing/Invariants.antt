use Rattle.std.proofs.Common.{◌≡◌, sum_by, take}
use Rattle.as_client.specs.BatchOf.{owing}
use Rattle.as_client.proofs.batch.all_owing.Given as goal

abbrev pub invariant-loop-position : goal.invariant-loop-position
invariant-loop-position l = l.sum ≡ sum_by (λ p. owing p.sum) (take l.position-index l.positions)
