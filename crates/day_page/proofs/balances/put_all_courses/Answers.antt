use Rattle.outside_io.proofs.PutLemmas.{puts_first, puts_then}
use Rattle.day_page.proofs.balances.put_all_courses.Goals as goal

pub returns-in_err-put_courses : goal.returns-in_err-put_courses
returns-in_err-put_courses g c = puts_first _ _ _ _ _ _ c.from_residual.ensures.0 c.in_err-put_courses.ensures

pub returns : goal.returns
returns g c = puts_then _ _ _ _ _ _ _ c.in_ok-put_courses.ensures c.put_all.ensures
