use Rattle.outside_io.proofs.PutLemmas.{puts_first, puts_then}
use Rattle.rtgs_engine.specs.Outputs.{output}
use Rattle.rtgs_engine.proofs.output.put_output.Goals as goal

pub returns-in_err-put_journal : goal.returns-in_err-put_journal
unfolding output
returns-in_err-put_journal g c = puts_first _ _ _ _ _ _ c.from_residual.ensures.0 c.in_err-put_journal.ensures

pub returns : goal.returns
unfolding output
returns g c = puts_then _ _ _ _ _ _ _ c.in_ok-put_journal.ensures c.put_told.ensures
