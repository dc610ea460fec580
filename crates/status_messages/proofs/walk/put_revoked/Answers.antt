use Rattle.outside_io.proofs.PutLemmas.{puts_first, puts_then}
use Rattle.status_messages.proofs.walk.put_revoked.Goals as goal

pub returns-in_err-put_entry_revocations : goal.returns-in_err-put_entry_revocations
returns-in_err-put_entry_revocations g c = puts_first _ _ _ _ _ _ c.from_residual.ensures.0 c.in_err-put_entry_revocations.ensures

pub returns : goal.returns
returns g c = puts_then _ _ _ _ _ _ _ c.in_ok-put_entry_revocations.ensures c.put_batch_revocation.ensures
