use Rattle.outside_io.proofs.PutLemmas.{puts_first, puts_then}
use Rattle.day_page.specs.BarTexts.{bar_row}
use Rattle.day_page.proofs.drawing.put_row.Goals as goal

pub returns-in_err-put_head : goal.returns-in_err-put_head
unfolding bar_row
returns-in_err-put_head g c = puts_first _ _ _ _ _ _ c.from_residual.ensures.0 c.in_err-put_head.ensures

pub returns : goal.returns
unfolding bar_row
returns g c = puts_then _ _ _ _ _ _ _ c.in_ok-put_head.ensures c.put_bar.ensures
