use Rattle.outside_io.proofs.PutLemmas.{puts_first, puts_then}
use Rattle.batch_records.proofs.put.put_moment.Goals as goal

pub returns-in_err-put_stops : goal.returns-in_err-put_stops
returns-in_err-put_stops g c = puts_first _ _ _ _ _ _ c.from_residual.ensures.0 c.in_err-put_stops.ensures

pub returns : goal.returns
returns g c = puts_then _ _ _ _ _ _ _ c.in_ok-put_stops.ensures c.put_message.ensures
