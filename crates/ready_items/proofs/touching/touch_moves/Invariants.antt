use Rattle.std.proofs.Common.{take}
use Rattle.ready_items.specs.Noting.{TouchesMoves}
use Rattle.ready_items.proofs.touching.touch_moves.Given as goal

abbrev pub invariant-loop-found : goal.invariant-loop-found
invariant-loop-found l = TouchesMoves (take l.found-index l.moves) l.initial.touched l.touched
