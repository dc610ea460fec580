use Rattle.outside_io.proofs.PutLemmas.{has_put_is, has_put_more, has_put_none, puts_front}
use Rattle.day_page.specs.BarTexts.{bar_part}
use Rattle.day_page.proofs.TextFacts.{next_at, parts_at}
use Rattle.day_page.proofs.drawing.put_picture.Goals as goal

pub loop-mark-init : goal.loop-mark-init
loop-mark-init g c = has_put_none _

pub returns-in_err-put_part : goal.returns-in_err-put_part
returns-in_err-put_part g c =
    puts_front _ _ _ _ _ _ _ _ _ c.from_residual.ensures.0 (parts_at (bar_part c.args.end c.args.n) c.args.changes.now c.loop-mark.mark-index _ c.loop-mark-test.true) c.loop-mark.invariant c.in_err-put_part.ensures

pub loop-mark-preserved : goal.loop-mark-preserved
loop-mark-preserved g c = has_put_is _ _ _ _ (next_at (bar_part c.args.end c.args.n) c.args.changes.now c.loop-mark.mark-index _ c.loop-mark-test.true) (has_put_more _ _ _ _ _ _ c.loop-mark.invariant c.in_ok-put_part.ensures)
