use Rattle.outside_io.proofs.PutLemmas.{puts_first, puts_then}
use Rattle.status_messages.proofs.walk.put_rejected_or_ended.Goals as goal

pub returns-in_err-put_rejections : goal.returns-in_err-put_rejections
returns-in_err-put_rejections g c = puts_first _ _ _ _ _ _ c.from_residual.ensures.0 c.in_err-put_rejections.ensures

pub returns : goal.returns
returns g c = puts_then _ _ _ _ _ _ _ c.in_ok-put_rejections.ensures c.put_asked_or_failed.ensures
