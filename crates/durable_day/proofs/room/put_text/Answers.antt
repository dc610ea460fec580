use Rattle.outside_io.proofs.PutLemmas.{puts_first, puts_then}
use Rattle.durable_day.proofs.room.put_text.Goals as goal

pub returns-in_err-put_line : goal.returns-in_err-put_line
returns-in_err-put_line g c = puts_first _ _ _ _ _ _ c.from_residual.ensures.0 c.in_err-put_line.ensures

pub returns : goal.returns
returns g c = puts_then _ _ _ _ _ _ _ c.in_ok-put_line.ensures c.put_all.ensures
