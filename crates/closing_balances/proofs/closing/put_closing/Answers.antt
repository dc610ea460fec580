use Rattle.outside_io.proofs.PutLemmas.{puts_first, puts_then}
use Rattle.closing_balances.proofs.closing.put_closing.Goals as goal

pub returns-in_err-put_balances : goal.returns-in_err-put_balances
returns-in_err-put_balances g c = puts_first _ _ _ _ _ _ c.from_residual.ensures.0 c.in_err-put_balances.ensures

pub returns : goal.returns
returns g c = puts_then _ _ _ _ _ _ _ c.in_ok-put_balances.ensures (rw c.len.ensures at c.put_ok.ensures)
