use Rattle.scan_laws.proofs.Queues.{standing_kept, queue_blocked, queue_waits, queue_ready, own_moves, queue_item}
use Rattle.scan_laws.proofs.left_alone.queues_stay.Goals as goal

pub returns-clause-standing : goal.returns-clause-standing
returns-clause-standing c = standing_kept

pub returns-clause-blocked : goal.returns-clause-blocked
returns-clause-blocked c = queue_blocked

pub returns-clause-waits : goal.returns-clause-waits
returns-clause-waits c = queue_waits

pub returns-clause-ready : goal.returns-clause-ready
returns-clause-ready c = queue_ready

pub returns-clause-own : goal.returns-clause-own
returns-clause-own c = own_moves

pub returns-clause-item : goal.returns-clause-item
returns-clause-item c = queue_item
