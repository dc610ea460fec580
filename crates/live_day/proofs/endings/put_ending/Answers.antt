use Rattle.std.proofs.Common.{rules}
use Rattle.live_day.proofs.ReadFacts.{puts_nothing}
use Rattle.live_day.proofs.endings.put_ending.Goals as goal

pub returns-in-Broken-clause-text : goal.returns-in-Broken-clause-text
returns-in-Broken-clause-text g c = puts_nothing _ _ _ (search rules)

pub returns-in-Complete-clause-text : goal.returns-in-Complete-clause-text
returns-in-Complete-clause-text g c = puts_nothing _ _ _ (search rules)
