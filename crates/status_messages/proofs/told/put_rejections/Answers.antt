use Rattle.std.proofs.Common.{rules}
use Rattle.status_messages.proofs.Texts.{puts_nothing}
use Rattle.status_messages.proofs.told.put_rejections.Goals as goal

pub returns-else-rejects : goal.returns-else-rejects
returns-else-rejects g c = puts_nothing _ _ _ (search rules)
