use Rattle.outside_io.proofs.PutLemmas.{puts_then}
use Rattle.day_page.proofs.wording.put_code.Goals as goal

pub returns : goal.returns
returns g c = puts_then _ _ _ _ _ _ _ c.in_ok-put_all.ensures (rw c.text.ensures at c.put_all-2.ensures)
