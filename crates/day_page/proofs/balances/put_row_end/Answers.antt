use Rattle.outside_io.proofs.PutLemmas.{puts_first, puts_then}
use Rattle.day_page.proofs.balances.put_row_end.Goals as goal

pub returns-in_err-put_rows : goal.returns-in_err-put_rows
returns-in_err-put_rows g c = puts_first _ _ _ _ _ _ c.from_residual.ensures.0 c.in_err-put_rows.ensures

pub returns : goal.returns
returns g c = puts_then _ _ _ _ _ _ _ c.in_ok-put_rows.ensures c.put_all.ensures
