use Rattle.outside_io.proofs.PutLemmas.{puts_first, puts_then}
use Rattle.day_page.proofs.drawing.put_bar.Goals as goal

pub returns-in_err-put_picture : goal.returns-in_err-put_picture
returns-in_err-put_picture g c = puts_first _ _ _ _ _ _ c.from_residual.ensures.0 c.in_err-put_picture.ensures

pub returns : goal.returns
returns g c = puts_then _ _ _ _ _ _ _ c.in_ok-put_picture.ensures c.put_cells.ensures
