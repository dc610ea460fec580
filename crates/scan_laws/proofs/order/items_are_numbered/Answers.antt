use Rattle.scan_laws.proofs.NumberFacts.{item-is, number-back, number-within, item-there, number-order}
use Rattle.scan_laws.proofs.order.items_are_numbered.Goals as goal

pub returns-clause-item : goal.returns-clause-item
returns-clause-item c = item-is

pub returns-clause-back : goal.returns-clause-back
returns-clause-back c = number-back

pub returns-clause-within : goal.returns-clause-within
returns-clause-within c = number-within

pub returns-clause-there : goal.returns-clause-there
returns-clause-there c = item-there

pub returns-clause-order : goal.returns-clause-order
returns-clause-order c = number-order
