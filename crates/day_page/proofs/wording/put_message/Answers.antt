use Rattle.outside_io.proofs.PutLemmas.{puts_first, puts_then}
use Rattle.day_page.proofs.wording.put_message.Goals as goal

pub returns-in_err-put_about : goal.returns-in_err-put_about
returns-in_err-put_about g c = puts_first _ _ _ _ _ _ c.from_residual.ensures.0 c.in_err-put_about.ensures

pub returns : goal.returns
returns g c = puts_then _ _ _ _ _ _ _ c.in_ok-put_about.ensures c.put_behind.ensures
