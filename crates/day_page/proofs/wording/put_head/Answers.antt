use Rattle.outside_io.proofs.PutLemmas.{puts_first, puts_then}
use Rattle.day_page.specs.LineTexts.{head_words}
use Rattle.day_page.proofs.wording.put_head.Goals as goal

pub returns-in_err-put_before : goal.returns-in_err-put_before
unfolding head_words
returns-in_err-put_before g c = puts_first _ _ _ _ _ _ c.from_residual.ensures.0 c.in_err-put_before.ensures

pub returns : goal.returns
unfolding head_words
returns g c = puts_then _ _ _ _ _ _ _ c.in_ok-put_before.ensures c.put_message.ensures
