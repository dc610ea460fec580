use Rattle.outside_io.proofs.PutLemmas.{has_put_is, has_put_more, has_put_none, puts_front}
use Rattle.day_page.specs.BarTexts.{bar_words}
use Rattle.day_page.proofs.TextFacts.{next_at, parts_at}
use Rattle.day_page.proofs.drawing.put_figures.Goals as goal

pub loop-mark-init : goal.loop-mark-init
loop-mark-init g c = has_put_none _

pub returns-in_err-put_words : goal.returns-in_err-put_words
returns-in_err-put_words g c =
    puts_front _ _ _ _ _ _ _ _ _ c.from_residual.ensures.0 (parts_at (bar_words c.args.n) c.args.changes.now c.loop-mark.mark-index _ c.loop-mark-test.true) c.loop-mark.invariant c.in_err-put_words.ensures

pub loop-mark-preserved : goal.loop-mark-preserved
loop-mark-preserved g c = has_put_is _ _ _ _ (next_at (bar_words c.args.n) c.args.changes.now c.loop-mark.mark-index _ c.loop-mark-test.true) (has_put_more _ _ _ _ _ _ c.loop-mark.invariant c.in_ok-put_words.ensures)
