use Rattle.outside_io.proofs.PutLemmas.{puts_first, puts_then}
use Rattle.day_page.proofs.page.put_style_and_heading.Goals as goal

pub returns-in_err-put_all : goal.returns-in_err-put_all
returns-in_err-put_all g c = puts_first _ _ _ _ _ _ c.from_residual.ensures.0 (rw c.style.ensures at c.in_err-put_all.ensures)

pub returns : goal.returns
returns g c = puts_then _ _ _ _ _ _ _ (rw c.style.ensures at c.in_ok-put_all.ensures) c.put_heading.ensures
