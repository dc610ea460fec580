use Rattle.std.proofs.Common.{rules}
use Rattle.status_messages.proofs.Texts.{puts_nothing}
use Rattle.status_messages.proofs.told.put_ask.Goals as goal

pub returns-else-matches : goal.returns-else-matches
returns-else-matches g c = puts_nothing _ _ _ (search rules)
