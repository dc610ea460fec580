use Rattle.std.proofs.Common.{◌∙◌, ◌++◌, ◌∷◌, [], ℕ, Option, ap, arith}
use Rattle.payment_queue.proofs.KeptLemmas.{none_more}
use Rattle.payment_queue.proofs.chain.push_links.Goals as goal

pub loop-i-preserved : goal.loop-i-preserved
loop-i-preserved c = record {
  links = none_more c.args.links.now.items _ _ c.loop-i._i c.loop-i.invariant.links (c.push_reserved.ensures.items ∙ ap (λ (x : Option ℕ). c.loop-i.links.items ++ x ∷ []) c.no_link.ensures);
  len = omega (arith, c.push_reserved.ensures.len, c.loop-i.invariant.len);
  capacity = omega (arith, c.push_reserved.ensures.capacity, c.loop-i.invariant.capacity);
}
