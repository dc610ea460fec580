use Rattle.std.proofs.Common.{rules}
use Rattle.status_messages.proofs.Texts.{puts_nothing}
use Rattle.status_messages.proofs.revocations.put_entry_revocation.Goals as goal

pub returns-else-is_revoked_here : goal.returns-else-is_revoked_here
returns-else-is_revoked_here g c = puts_nothing _ _ _ (search rules)
