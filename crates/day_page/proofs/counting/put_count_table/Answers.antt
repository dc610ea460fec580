use Rattle.outside_io.proofs.PutLemmas.{puts_first, puts_then}
use Rattle.day_page.specs.CountTexts.{count_table}
use Rattle.day_page.proofs.counting.put_count_table.Goals as goal

pub returns-in_err-put_all : goal.returns-in_err-put_all
unfolding count_table
returns-in_err-put_all g c = puts_first _ _ _ _ _ _ c.from_residual.ensures.0 c.in_err-put_all.ensures

pub returns : goal.returns
unfolding count_table
returns g c = puts_then _ _ _ _ _ _ _ c.in_ok-put_all.ensures c.put_count_body.ensures
