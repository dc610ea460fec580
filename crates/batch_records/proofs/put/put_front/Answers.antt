use Rattle.outside_io.proofs.PutLemmas.{puts_first, puts_then}
use Rattle.batch_records.proofs.put.put_front.Goals as goal

pub returns-in_err-put_head : goal.returns-in_err-put_head
returns-in_err-put_head g c = puts_first _ _ _ _ _ _ c.from_residual.ensures.0 c.in_err-put_head.ensures

pub returns : goal.returns
returns g c = puts_then _ _ _ _ _ _ _ c.in_ok-put_head.ensures (rw c.systems.ensures at c.put_systems.ensures)
