use Rattle.outside_io.proofs.PutLemmas.{puts_first, puts_then}
use Rattle.day_page.proofs.drawing.put_figures_and_end.Goals as goal

pub returns-in_err-put_figures : goal.returns-in_err-put_figures
returns-in_err-put_figures g c = puts_first _ _ _ _ _ _ c.from_residual.ensures.0 c.in_err-put_figures.ensures

pub returns : goal.returns
returns g c = puts_then _ _ _ _ _ _ _ c.in_ok-put_figures.ensures c.put_all.ensures
