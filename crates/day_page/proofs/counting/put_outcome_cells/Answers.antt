use Rattle.outside_io.proofs.PutLemmas.{puts_first, puts_then}
use Rattle.day_page.specs.CountTexts.{outcome_cells}
use Rattle.day_page.proofs.counting.put_outcome_cells.Goals as goal

pub returns-in_err-put_all_outcomes : goal.returns-in_err-put_all_outcomes
unfolding outcome_cells
returns-in_err-put_all_outcomes g c = puts_first _ _ _ _ _ _ c.from_residual.ensures.0 c.in_err-put_all_outcomes.ensures

pub returns : goal.returns
unfolding outcome_cells
returns g c = puts_then _ _ _ _ _ _ _ c.in_ok-put_all_outcomes.ensures c.put_all.ensures
