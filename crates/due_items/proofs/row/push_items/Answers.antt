use Rattle.std.proofs.Common.{arith, refl}
use Rattle.due_items.proofs.RowFacts.{row_pushed}
use Rattle.due_items.proofs.row.push_items.Goals as goal

pub loop-k-preserved : goal.loop-k-preserved
loop-k-preserved c = record {
  messages = row_pushed (λ k. c.args.n) c.args.messages.now.items _ _ c.loop-k._k _ c.loop-k.invariant.messages refl c.push_reserved.ensures.items;
  len = omega (arith, c.push_reserved.ensures.len, c.loop-k.invariant.len);
  capacity = omega (arith, c.push_reserved.ensures.capacity, c.loop-k.invariant.capacity);
}
