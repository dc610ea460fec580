use Rattle.outside_io.proofs.PutLemmas.{puts_then}
use Rattle.outside_io.proofs.sink.put_field.Goals as goal

pub returns : goal.returns
returns g c = puts_then _ _ _ _ _ _ _ c.in_ok-put_all.ensures c.put_all-2.ensures
