use Rattle.outside_io.proofs.PutLemmas.{puts_first, puts_then}
use Rattle.day_page.specs.CountTexts.{outcome_row}
use Rattle.day_page.proofs.counting.put_outcome_row.Goals as goal

pub returns-in_err-put_outcome_head : goal.returns-in_err-put_outcome_head
unfolding outcome_row
returns-in_err-put_outcome_head g c = puts_first _ _ _ _ _ _ c.from_residual.ensures.0 c.in_err-put_outcome_head.ensures

pub returns : goal.returns
unfolding outcome_row
returns g c = puts_then _ _ _ _ _ _ _ c.in_ok-put_outcome_head.ensures c.put_outcome_cells.ensures
