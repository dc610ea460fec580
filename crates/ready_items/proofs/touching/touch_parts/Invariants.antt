use Rattle.ready_items.specs.Touching.{TouchesParts}
use Rattle.ready_items.proofs.touching.touch_parts.Given as goal

abbrev pub invariant-loop-k : goal.invariant-loop-k
invariant-loop-k l = TouchesParts l.setting.day l.n l.k l.initial.touched l.touched
