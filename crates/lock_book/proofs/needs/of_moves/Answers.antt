use Rattle.lock_book.proofs.Needing.{needs_more}
use Rattle.lock_book.proofs.needs.of_moves.Goals as goal

pub loop-found-preserved : goal.loop-found-preserved
loop-found-preserved c = needs_more c.args.moves.now c.loop-found.found-index c.found-item.result c.loop-found-test.true c.found-item.is _ _ _ c.loop-found.invariant c.of_move.ensures c.either-needs.ensures
