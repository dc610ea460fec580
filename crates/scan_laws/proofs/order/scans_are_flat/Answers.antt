use Rattle.scan_laws.proofs.FlatPasses.{scan-flat, sweep-whole, sweep_from-done}
use Rattle.scan_laws.proofs.order.scans_are_flat.Goals as goal

pub returns-clause-one_scan : goal.returns-clause-one_scan
returns-clause-one_scan c = scan-flat

pub returns-clause-whole : goal.returns-clause-whole
returns-clause-whole c = sweep-whole

pub returns-clause-done : goal.returns-clause-done
returns-clause-done c = sweep_from-done
