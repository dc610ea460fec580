use Rattle.scan_laws.proofs.Frame.{balance_stays, pending_blocked, own_touched}
use Rattle.scan_laws.proofs.left_alone.untouched_is_left_alone.Goals as goal

pub returns-clause-balance : goal.returns-clause-balance
returns-clause-balance c = balance_stays

pub returns-clause-blocked : goal.returns-clause-blocked
returns-clause-blocked c = pending_blocked

pub returns-clause-own : goal.returns-clause-own
returns-clause-own c = own_touched
