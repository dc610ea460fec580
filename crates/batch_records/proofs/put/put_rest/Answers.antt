use Rattle.outside_io.proofs.PutLemmas.{puts_first, puts_then}
use Rattle.batch_records.proofs.put.put_rest.Goals as goal

pub returns-in_err-put_moments : goal.returns-in_err-put_moments
returns-in_err-put_moments g c = puts_first _ _ _ _ _ _ c.from_residual.ensures.0 (rw (c.version.ensures, c.stops.ensures) at c.in_err-put_moments.ensures)

pub returns : goal.returns
returns g c = puts_then _ _ _ _ _ _ _ (rw (c.version.ensures, c.stops.ensures) at c.in_ok-put_moments.ensures) c.put_end.ensures
