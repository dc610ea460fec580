use Rattle.outside_io.proofs.PutLemmas.{puts_first, puts_then}
use Rattle.day_page.proofs.page.put_lines_and_foot.Goals as goal

pub returns-in_err-put_lines : goal.returns-in_err-put_lines
returns-in_err-put_lines g c = puts_first _ _ _ _ _ _ c.from_residual.ensures.0 c.in_err-put_lines.ensures

pub returns : goal.returns
returns g c = puts_then _ _ _ _ _ _ _ c.in_ok-put_lines.ensures c.put_all.ensures
