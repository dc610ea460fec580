use Rattle.ready_items.specs.Touching.{TouchesBelow}
use Rattle.ready_items.proofs.touching.touch_all.Given as goal

abbrev pub invariant-loop-a : goal.invariant-loop-a
invariant-loop-a l = TouchesBelow l.a l.initial.touched l.touched
