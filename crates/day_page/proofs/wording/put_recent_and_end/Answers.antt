use Rattle.outside_io.proofs.PutLemmas.{puts_first, puts_then}
use Rattle.day_page.proofs.wording.put_recent_and_end.Goals as goal

pub returns-in_err-put_recent : goal.returns-in_err-put_recent
returns-in_err-put_recent g c = puts_first _ _ _ _ _ _ c.from_residual.ensures.0 (rw c.most_lines.ensures at c.in_err-put_recent.ensures)

pub returns : goal.returns
returns g c = puts_then _ _ _ _ _ _ _ (rw c.most_lines.ensures at c.in_ok-put_recent.ensures) c.put_all.ensures
