use Rattle.outside_io.proofs.PutLemmas.{puts_first, puts_then}
use Rattle.batch_records.proofs.put.put_head.Goals as goal

pub returns-in_err-put_version : goal.returns-in_err-put_version
returns-in_err-put_version g c = puts_first _ _ _ _ _ _ c.from_residual.ensures.0 (rw c.version.ensures at c.in_err-put_version.ensures)

pub returns : goal.returns
returns g c = puts_then _ _ _ _ _ _ _ (rw c.version.ensures at c.in_ok-put_version.ensures) (rw c.date.ensures at c.put_date.ensures)
