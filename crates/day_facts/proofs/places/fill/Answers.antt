use Rattle.std.proofs.Common.{None, arith, refl}
use Rattle.machine.proofs.Lists.{none_pushed, row_pushed}
use Rattle.day_facts.proofs.places.fill.Goals as goal

pub loop-k-init : goal.loop-k-init
loop-k-init c = record { items = none_pushed c.args.items.now.items; len = omega arith; capacity = refl }

pub loop-k-preserved : goal.loop-k-preserved
loop-k-preserved c = record {
  items = row_pushed (λ k. None) c.args.items.now.items _ _ c.loop-k._k _ c.loop-k.invariant.items c.no_place.ensures c.push_reserved.ensures.items;
  len = omega (arith, c.push_reserved.ensures.len, c.loop-k.invariant.len);
  capacity = omega (arith, c.push_reserved.ensures.capacity, c.loop-k.invariant.capacity);
}
