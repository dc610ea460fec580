use Rattle.std.proofs.Common.{append-nil}
use Rattle.outside_io.proofs.PutLemmas.{puts_first, puts_then}
use Rattle.status_messages.proofs.told.put_move.Goals as goal

pub returns-in_err-put_side : goal.returns-in_err-put_side
returns-in_err-put_side g c = puts_first _ _ _ _ _ _ c.from_residual.ensures.0 c.in_err-put_side.ensures

pub returns : goal.returns
returns g c = rw append-nil (puts_then _ _ _ _ _ _ _ c.in_ok-put_side.ensures c.put_side-2.ensures)
