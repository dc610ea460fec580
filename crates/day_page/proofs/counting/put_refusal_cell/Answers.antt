use Rattle.outside_io.proofs.PutLemmas.{puts_first, puts_then}
use Rattle.day_page.specs.CountTexts.{refusal_cell}
use Rattle.day_page.proofs.counting.put_refusal_cell.Goals as goal

pub returns-in_err-put_all_refusals : goal.returns-in_err-put_all_refusals
unfolding refusal_cell
returns-in_err-put_all_refusals g c = puts_first _ _ _ _ _ _ c.from_residual.ensures.0 c.in_err-put_all_refusals.ensures

pub returns : goal.returns
unfolding refusal_cell
returns g c = puts_then _ _ _ _ _ _ _ c.in_ok-put_all_refusals.ensures c.put_all.ensures
