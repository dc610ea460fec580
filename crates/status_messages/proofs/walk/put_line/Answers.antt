use Rattle.outside_io.proofs.PutLemmas.{puts_first, puts_then}
use Rattle.status_messages.proofs.walk.put_line.Goals as goal

pub returns-in_err-put_opening : goal.returns-in_err-put_opening
returns-in_err-put_opening g c = puts_first _ _ _ _ _ _ c.from_residual.ensures.0 c.in_err-put_opening.ensures

pub returns : goal.returns
returns g c = puts_then _ _ _ _ _ _ _ c.in_ok-put_opening.ensures c.put_behind.ensures
