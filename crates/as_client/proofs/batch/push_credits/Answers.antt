use Rattle.std.proofs.Common.{arith}
use Rattle.as_client.specs.declared.trade.Position.{Position}
use Rattle.as_client.specs.BatchOf.{credit_of}
use Rattle.as_client.proofs.EntryFacts.{entries-more}
use Rattle.as_client.proofs.batch.push_credits.Goals as goal

pub loop-position-preserved : goal.loop-position-preserved
loop-position-preserved c =
    entries-more (λ (p : Position). credit_of c.args.technical.now p.account p.sum) c.args.positions.now c.loop-position.position-index c.position-item.result (omega arith) c.position-item.is _ _ _
    c.loop-position.invariant c.in_ok-push_credit.ensures
