use Rattle.std.proofs.Common.{subst, arith}
use Rattle.ready_items.specs.Touching.{TouchesParts}
use Rattle.ready_items.proofs.TouchFacts.{parts_more, parts_none}
use Rattle.ready_items.proofs.touching.touch_parts.Goals as goal

pub loop-k-init : goal.loop-k-init
loop-k-init c = parts_none c.args.setting.now.day c.args.n c.args.touched.now

pub loop-k-preserved : goal.loop-k-preserved
loop-k-preserved c = parts_more c.args.setting.now.day c.args.n c.loop-k.k c.args.touched.now c.loop-k.touched _ c.loop-k.invariant c.touch_part.ensures

pub returns : goal.returns
returns c = subst (λ k. TouchesParts c.args.setting.now.day c.args.n k c.args.touched.now c.loop-k.touched) (omega (arith, c.loop-k-test.false, c.loop-k.auto.k-end, c.entry_count-k-end.ensures.count)) c.loop-k.invariant
