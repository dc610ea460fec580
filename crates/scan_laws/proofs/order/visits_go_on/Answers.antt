use Rattle.scan_laws.proofs.Settling.{visit-on, visit-falls}
use Rattle.scan_laws.proofs.order.visits_go_on.Goals as goal

pub returns-clause-same : goal.returns-clause-same
returns-clause-same c = visit-on

pub returns-clause-falls : goal.returns-clause-falls
returns-clause-falls c = visit-falls
