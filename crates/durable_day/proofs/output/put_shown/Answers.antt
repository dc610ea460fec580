use Rattle.outside_io.proofs.PutLemmas.{puts_first, puts_then}
use Rattle.durable_day.proofs.output.put_shown.Goals as goal

pub returns-in_err-put_journal : goal.returns-in_err-put_journal
returns-in_err-put_journal g c = puts_first _ _ _ _ _ _ c.from_residual.ensures.0 c.in_err-put_journal.ensures

pub returns : goal.returns
returns g c = puts_then _ _ _ _ _ _ _ c.in_ok-put_journal.ensures (rw c.len.ensures at c.put_ok.ensures)
