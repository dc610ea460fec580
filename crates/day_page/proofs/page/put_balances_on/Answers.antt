use Rattle.outside_io.proofs.PutLemmas.{puts_first, puts_then}
use Rattle.day_page.proofs.page.put_balances_on.Goals as goal

pub returns-in_err-put_balances_part : goal.returns-in_err-put_balances_part
returns-in_err-put_balances_part g c = puts_first _ _ _ _ _ _ c.from_residual.ensures.0 c.in_err-put_balances_part.ensures

pub returns : goal.returns
returns g c = puts_then _ _ _ _ _ _ _ c.in_ok-put_balances_part.ensures c.put_waiting_on.ensures
