use Rattle.scan_laws.proofs.Waiting.{waits_stay, waiting_ready, ready_waits, whole_ready, alone_ready, never_ready}
use Rattle.scan_laws.proofs.left_alone.waiting_is_seen.Goals as goal

pub returns-clause-same : goal.returns-clause-same
returns-clause-same c = waits_stay

pub returns-clause-ready : goal.returns-clause-ready
returns-clause-ready c = waiting_ready

pub returns-clause-each : goal.returns-clause-each
returns-clause-each c = ready_waits

pub returns-clause-whole : goal.returns-clause-whole
returns-clause-whole c = whole_ready

pub returns-clause-alone : goal.returns-clause-alone
returns-clause-alone c = alone_ready

pub returns-clause-neither : goal.returns-clause-neither
returns-clause-neither c = never_ready
