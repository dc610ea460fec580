use Rattle.outside_io.proofs.PutLemmas.{puts_first, puts_then}
use Rattle.as_client.proofs.report.put_rest.Goals as goal

pub returns-in_err-put_messages : goal.returns-in_err-put_messages
returns-in_err-put_messages g c = puts_first _ _ _ _ _ _ c.from_residual.ensures.0 c.in_err-put_messages.ensures

pub returns : goal.returns
returns g c = puts_then _ _ _ _ _ _ _ c.in_ok-put_messages.ensures c.put_count.ensures
