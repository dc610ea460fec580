use Rattle.std.proofs.Common.{rules}
use Rattle.status_messages.proofs.Texts.{puts_nothing}
use Rattle.status_messages.proofs.told.put_unless.Goals as goal

pub returns-then-moved : goal.returns-then-moved
returns-then-moved g c = puts_nothing _ _ _ (search rules)
