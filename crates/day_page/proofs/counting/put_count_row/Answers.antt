use Rattle.outside_io.proofs.PutLemmas.{puts_first, puts_then}
use Rattle.day_page.specs.CountTexts.{count_row}
use Rattle.day_page.proofs.counting.put_count_row.Goals as goal

pub returns-in_err-put_count_cells : goal.returns-in_err-put_count_cells
unfolding count_row
returns-in_err-put_count_cells g c = puts_first _ _ _ _ _ _ c.from_residual.ensures.0 c.in_err-put_count_cells.ensures

pub returns : goal.returns
unfolding count_row
returns g c = puts_then _ _ _ _ _ _ _ c.in_ok-put_count_cells.ensures c.put_refusal_cell.ensures
