use Rattle.outside_io.proofs.PutLemmas.{puts_first, puts_then}
use Rattle.day_page.proofs.page.put_name_and_standing.Goals as goal

pub returns-in_err-put_name : goal.returns-in_err-put_name
returns-in_err-put_name g c = puts_first _ _ _ _ _ _ c.from_residual.ensures.0 c.in_err-put_name.ensures

pub returns : goal.returns
returns g c = puts_then _ _ _ _ _ _ _ c.in_ok-put_name.ensures c.put_standing.ensures
