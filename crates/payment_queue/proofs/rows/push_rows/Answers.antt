use Rattle.std.proofs.Common.{arith}
use Rattle.payment_queue.proofs.KeptLemmas.{none_more}
use Rattle.payment_queue.proofs.rows.push_rows.Goals as goal

pub loop-i-preserved : goal.loop-i-preserved
loop-i-preserved c = record {
  rows = none_more c.args.rows.now.items _ _ c.loop-i._i c.loop-i.invariant.rows c.push_reserved.ensures.items;
  len = omega (arith, c.push_reserved.ensures.len, c.loop-i.invariant.len);
  capacity = omega (arith, c.push_reserved.ensures.capacity, c.loop-i.invariant.capacity);
}
