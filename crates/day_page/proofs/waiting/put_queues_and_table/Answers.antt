use Rattle.outside_io.proofs.PutLemmas.{puts_first, puts_then}
use Rattle.day_page.proofs.waiting.put_queues_and_table.Goals as goal

pub returns-in_err-put_queues : goal.returns-in_err-put_queues
returns-in_err-put_queues g c = puts_first _ _ _ _ _ _ c.from_residual.ensures.0 c.in_err-put_queues.ensures

pub returns : goal.returns
returns g c = puts_then _ _ _ _ _ _ _ c.in_ok-put_queues.ensures c.put_table.ensures
