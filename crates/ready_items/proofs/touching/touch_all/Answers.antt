use Rattle.std.proofs.Common.{subst, arith}
use Rattle.ready_items.specs.Touching.{TouchesBelow}
use Rattle.ready_items.proofs.TouchFacts.{below_more, below_none}
use Rattle.ready_items.proofs.touching.touch_all.Goals as goal

pub loop-a-init : goal.loop-a-init
loop-a-init c = below_none c.args.touched.now

pub loop-a-preserved : goal.loop-a-preserved
loop-a-preserved c = below_more c.loop-a.a c.args.touched.now c.loop-a.touched _ c.loop-a.invariant c.touch.ensures

pub returns : goal.returns
returns c = subst (λ n. TouchesBelow n c.args.touched.now c.loop-a.touched) (omega (arith, c.loop-a-test.false, c.loop-a.auto.a-end, c.bound-a-end.ensures)) c.loop-a.invariant
