use Rattle.outside_io.proofs.PutLemmas.{puts_first, puts_then}
use Rattle.batch_records.proofs.put.put_kept.Goals as goal

pub returns-in_err-put_setup : goal.returns-in_err-put_setup
returns-in_err-put_setup g c = puts_first _ _ _ _ _ _ c.from_residual.ensures.0 c.in_err-put_setup.ensures

pub returns : goal.returns
returns g c = puts_then _ _ _ _ _ _ _ c.in_ok-put_setup.ensures (rw (c.accounts.ensures, c.reserves.ensures) at c.put_reserves.ensures)
