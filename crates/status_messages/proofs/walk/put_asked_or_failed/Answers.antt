use Rattle.outside_io.proofs.PutLemmas.{puts_first, puts_then}
use Rattle.status_messages.proofs.walk.put_asked_or_failed.Goals as goal

pub returns-in_err-put_ask : goal.returns-in_err-put_ask
returns-in_err-put_ask g c = puts_first _ _ _ _ _ _ c.from_residual.ensures.0 c.in_err-put_ask.ensures

pub returns : goal.returns
returns g c = puts_then _ _ _ _ _ _ _ c.in_ok-put_ask.ensures c.put_failure.ensures
