use Rattle.scan_laws.proofs.Alike.{phase_at_time}
use Rattle.scan_laws.proofs.Passing.{time_later, info_stop, early_stop, end_stop}
use Rattle.scan_laws.proofs.left_alone.time_meets_ends.Goals as goal

pub returns-clause-later : goal.returns-clause-later
returns-clause-later c = time_later

pub returns-clause-info : goal.returns-clause-info
returns-clause-info c = info_stop

pub returns-clause-earliest : goal.returns-clause-earliest
returns-clause-earliest c = early_stop

pub returns-clause-end : goal.returns-clause-end
returns-clause-end c = end_stop

pub returns-clause-phase : goal.returns-clause-phase
returns-clause-phase c = phase_at_time
