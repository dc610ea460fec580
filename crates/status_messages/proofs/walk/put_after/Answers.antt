use Rattle.outside_io.proofs.PutLemmas.{puts_first, puts_then}
use Rattle.status_messages.proofs.walk.put_after.Goals as goal

pub returns-in_err-put_rejected_or_ended : goal.returns-in_err-put_rejected_or_ended
returns-in_err-put_rejected_or_ended g c = puts_first _ _ _ _ _ _ c.from_residual.ensures.0 c.in_err-put_rejected_or_ended.ensures

pub returns : goal.returns
returns g c = puts_then _ _ _ _ _ _ _ c.in_ok-put_rejected_or_ended.ensures c.put_subject.ensures
