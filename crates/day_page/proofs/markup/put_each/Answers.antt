use Rattle.outside_io.proofs.PutLemmas.{has_put_is, has_put_more, has_put_none, puts_front}
use Rattle.day_page.proofs.TextFacts.{next_at, parts_at}
use Rattle.day_page.proofs.markup.put_each.Goals as goal

pub loop-piece-init : goal.loop-piece-init
loop-piece-init g c = has_put_none _

pub returns-in_err-put_all : goal.returns-in_err-put_all
returns-in_err-put_all g c =
    puts_front _ _ _ _ _ _ _ _ _ c.from_residual.ensures.0 (parts_at (λ (piece : _). piece.now) c.args.pieces.now c.loop-piece.piece-index _ c.loop-piece-test.true) c.loop-piece.invariant c.in_err-put_all.ensures

pub loop-piece-preserved : goal.loop-piece-preserved
loop-piece-preserved g c = has_put_is _ _ _ _ (next_at (λ (piece : _). piece.now) c.args.pieces.now c.loop-piece.piece-index _ c.loop-piece-test.true) (has_put_more _ _ _ _ _ _ c.loop-piece.invariant c.in_ok-put_all.ensures)
