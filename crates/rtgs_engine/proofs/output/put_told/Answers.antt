use Rattle.outside_io.proofs.PutLemmas.{puts_first, puts_then}
use Rattle.rtgs_engine.proofs.output.put_told.Goals as goal

pub returns-in_err-put_statuses : goal.returns-in_err-put_statuses
returns-in_err-put_statuses g c = puts_first _ _ _ _ _ _ c.from_residual.ensures.0 c.in_err-put_statuses.ensures.texts

pub returns : goal.returns
returns g c = puts_then _ _ _ _ _ _ _ c.in_ok-put_statuses.ensures.texts c.put_closing.ensures
