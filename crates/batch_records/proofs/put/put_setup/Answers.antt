use Rattle.outside_io.proofs.PutLemmas.{puts_first, puts_then}
use Rattle.batch_records.proofs.put.put_setup.Goals as goal

pub returns-in_err-put_front : goal.returns-in_err-put_front
returns-in_err-put_front g c = puts_first _ _ _ _ _ _ c.from_residual.ensures.0 c.in_err-put_front.ensures

pub returns : goal.returns
returns g c = puts_then _ _ _ _ _ _ _ c.in_ok-put_front.ensures (rw c.accounts.ensures at c.put_accounts.ensures)
