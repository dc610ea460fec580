use Rattle.outside_io.proofs.PutLemmas.{puts_first, puts_then}
use Rattle.day_page.specs.BalanceTexts.{course_figures}
use Rattle.day_page.proofs.balances.put_figures.Goals as goal

pub returns-in_err-put_table : goal.returns-in_err-put_table
unfolding course_figures
returns-in_err-put_table g c = puts_first _ _ _ _ _ _ c.from_residual.ensures.0 c.in_err-put_table.ensures

pub returns : goal.returns
unfolding course_figures
returns g c = puts_then _ _ _ _ _ _ _ c.in_ok-put_table.ensures c.put_row_end.ensures
