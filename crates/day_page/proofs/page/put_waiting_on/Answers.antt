use Rattle.outside_io.proofs.PutLemmas.{puts_first, puts_then}
use Rattle.day_page.proofs.page.put_waiting_on.Goals as goal

pub returns-in_err-put_waiting_part : goal.returns-in_err-put_waiting_part
returns-in_err-put_waiting_part g c = puts_first _ _ _ _ _ _ c.from_residual.ensures.0 c.in_err-put_waiting_part.ensures

pub returns : goal.returns
returns g c = puts_then _ _ _ _ _ _ _ c.in_ok-put_waiting_part.ensures c.put_last_parts.ensures
