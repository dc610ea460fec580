use Rattle.std.proofs.Common.{rules}
use Rattle.status_messages.proofs.Texts.{puts_nothing}
use Rattle.status_messages.proofs.told.put_batch_revocation.Goals as goal

pub returns-else-is_whole_revoked : goal.returns-else-is_whole_revoked
returns-else-is_whole_revoked g c = puts_nothing _ _ _ (search rules)
