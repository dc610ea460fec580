use Rattle.outside_io.proofs.PutLemmas.{puts_first, puts_then}
use Rattle.status_messages.proofs.walk.put_taking.Goals as goal

pub returns-in_err-put_intake : goal.returns-in_err-put_intake
returns-in_err-put_intake g c = puts_first _ _ _ _ _ _ c.from_residual.ensures.0 c.in_err-put_intake.ensures

pub returns : goal.returns
returns g c = puts_then _ _ _ _ _ _ _ c.in_ok-put_intake.ensures c.put_information.ensures
