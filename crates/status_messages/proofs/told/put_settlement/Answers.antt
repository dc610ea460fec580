use Rattle.std.proofs.Common.{rules}
use Rattle.status_messages.proofs.Texts.{puts_nothing}
use Rattle.status_messages.proofs.told.put_settlement.Goals as goal

pub returns-else-after : goal.returns-else-after
returns-else-after g c = puts_nothing _ _ _ (search rules)
