use Rattle.scan_laws.proofs.Lined.{line-ready, line-within, step-item, line-item}
use Rattle.scan_laws.proofs.order.lines_of_items.Goals as goal

pub returns-clause-ready : goal.returns-clause-ready
returns-clause-ready c = line-ready

pub returns-clause-within : goal.returns-clause-within
returns-clause-within c = line-within

pub returns-clause-step : goal.returns-clause-step
returns-clause-step c = step-item

pub returns-clause-item : goal.returns-clause-item
returns-clause-item c = line-item
