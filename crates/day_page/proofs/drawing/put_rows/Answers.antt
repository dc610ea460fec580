use Rattle.outside_io.proofs.PutLemmas.{has_put_is, has_put_more, has_put_none, puts_front}
use Rattle.day_page.specs.BarTexts.{bar_row}
use Rattle.day_page.proofs.TextFacts.{next_at, parts_at}
use Rattle.day_page.proofs.drawing.put_rows.Goals as goal

pub loop-n-init : goal.loop-n-init
loop-n-init g c = has_put_none _

pub returns-in_err-put_row : goal.returns-in_err-put_row
returns-in_err-put_row g c =
    puts_front _ _ _ _ _ _ _ _ _ c.from_residual.ensures.0 (parts_at (bar_row c.args.setting.now.day c.args.changes.now c.args.end) c.args.bars.now c.loop-n.n-index _ c.loop-n-test.true) c.loop-n.invariant c.in_err-put_row.ensures

pub loop-n-preserved : goal.loop-n-preserved
loop-n-preserved g c = has_put_is _ _ _ _ (next_at (bar_row c.args.setting.now.day c.args.changes.now c.args.end) c.args.bars.now c.loop-n.n-index _ c.loop-n-test.true) (has_put_more _ _ _ _ _ _ c.loop-n.invariant c.in_ok-put_row.ensures)
