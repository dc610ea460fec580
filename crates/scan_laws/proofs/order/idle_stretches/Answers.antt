use Rattle.scan_laws.proofs.Stretches.{idle-over, line-on}
use Rattle.scan_laws.proofs.order.idle_stretches.Goals as goal

pub returns-clause-over : goal.returns-clause-over
returns-clause-over c = idle-over

pub returns-clause-line : goal.returns-clause-line
returns-clause-line c = line-on
