use Rattle.std.proofs.Common.{◌∙◌, ◌++◌, ◌∷◌, [], ℕ, Option, ap, arith}
use Rattle.pending_items.proofs.Grown.{slots_more}
use Rattle.pending_items.proofs.rows.push_slots.Goals as goal

pub loop-i-preserved : goal.loop-i-preserved
loop-i-preserved c = record {
  slots = slots_more c.args.slots.now.items _ _ c.loop-i._i c.loop-i.invariant.slots (c.push_reserved.ensures.items ∙ ap (λ (x : Option ℕ). c.loop-i.slots.items ++ x ∷ []) c.no_slot.ensures);
  len = omega (arith, c.push_reserved.ensures.len, c.loop-i.invariant.len);
  capacity = omega (arith, c.push_reserved.ensures.capacity, c.loop-i.invariant.capacity);
}
