use Rattle.std.proofs.Common.{◌≡◌, ◌++◌, take}
use Rattle.as_client.specs.BatchOf.{credits_of}
use Rattle.as_client.proofs.batch.push_credits.Given as goal

abbrev pub invariant-loop-position : goal.invariant-loop-position
invariant-loop-position l = l.entries ≡ l.initial.entries ++ credits_of l.technical (take l.position-index l.positions)
