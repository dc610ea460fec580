use Rattle.std.proofs.Common.{rules}
use Rattle.status_messages.proofs.Texts.{puts_nothing}
use Rattle.as_client.proofs.report.put_holding.Goals as goal

pub returns-in_default : goal.returns-in_default
returns-in_default g c = puts_nothing _ _ _ (search rules)

pub returns-in-None : goal.returns-in-None
returns-in-None g c = puts_nothing _ _ _ (search rules)
