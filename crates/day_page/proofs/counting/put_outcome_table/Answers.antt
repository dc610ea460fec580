use Rattle.outside_io.proofs.PutLemmas.{puts_first, puts_then}
use Rattle.day_page.specs.CountTexts.{outcome_table}
use Rattle.day_page.proofs.counting.put_outcome_table.Goals as goal

pub returns-in_err-put_all : goal.returns-in_err-put_all
unfolding outcome_table
returns-in_err-put_all g c = puts_first _ _ _ _ _ _ c.from_residual.ensures.0 c.in_err-put_all.ensures

pub returns : goal.returns
unfolding outcome_table
returns g c = puts_then _ _ _ _ _ _ _ c.in_ok-put_all.ensures c.put_outcome_body.ensures
