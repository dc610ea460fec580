use Rattle.scan_laws.proofs.Lined.{next-least, next-is, next-by, none-by}
use Rattle.scan_laws.proofs.AnyReady.{any-ready}
use Rattle.scan_laws.proofs.Stretches.{next-within}
use Rattle.scan_laws.proofs.order.ready_is_seen.Goals as goal

pub returns-clause-next : goal.returns-clause-next
returns-clause-next c = next-least

pub returns-clause-same : goal.returns-clause-same
returns-clause-same c = next-is

pub returns-clause-empty : goal.returns-clause-empty
returns-clause-empty c = none-by

pub returns-clause-any : goal.returns-clause-any
returns-clause-any c = any-ready

pub returns-clause-seen : goal.returns-clause-seen
returns-clause-seen c = next-by

pub returns-clause-within : goal.returns-clause-within
returns-clause-within c = next-within
