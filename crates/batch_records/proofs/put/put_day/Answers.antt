use Rattle.outside_io.proofs.PutLemmas.{puts_first, puts_then}
use Rattle.batch_records.proofs.PutFacts.{day_parts}
use Rattle.batch_records.proofs.put.put_day.Goals as goal

pub returns-in_err-put_kept : goal.returns-in_err-put_kept
returns-in_err-put_kept g c = rw (← day_parts c.args.day.now) (puts_first _ _ _ _ _ _ c.from_residual.ensures.0 c.in_err-put_kept.ensures)

pub returns : goal.returns
returns g c = rw (← day_parts c.args.day.now) (puts_then _ _ _ _ _ _ _ c.in_ok-put_kept.ensures c.put_rest.ensures)
