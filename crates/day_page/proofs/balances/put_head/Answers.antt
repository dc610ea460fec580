use Rattle.outside_io.proofs.PutLemmas.{puts_first, puts_then}
use Rattle.day_page.specs.BalanceTexts.{course_head}
use Rattle.day_page.proofs.balances.put_head.Goals as goal

pub returns-in_err-put_title : goal.returns-in_err-put_title
unfolding course_head
returns-in_err-put_title g c = puts_first _ _ _ _ _ _ c.from_residual.ensures.0 c.in_err-put_title.ensures

pub returns : goal.returns
unfolding course_head
returns g c = puts_then _ _ _ _ _ _ _ c.in_ok-put_title.ensures c.put_picture.ensures
