use Rattle.ready_items.proofs.TouchFacts.{moves_all, moves_more, moves_none}
use Rattle.ready_items.proofs.touching.touch_moves.Goals as goal

pub loop-found-init : goal.loop-found-init
loop-found-init c = moves_none c.args.touched.now

pub loop-found-preserved : goal.loop-found-preserved
loop-found-preserved c = moves_more c.args.moves.now c.loop-found.found-index c.found-item.result c.args.touched.now c.loop-found.touched _ _ c.loop-found-test.true c.found-item.is c.loop-found.invariant c.touch.ensures c.touch-in-loop-found.ensures

pub returns : goal.returns
returns c = moves_all c.args.moves.now c.loop-found.found-index c.args.touched.now c.loop-found.touched c.loop-found-test.false c.loop-found.invariant
