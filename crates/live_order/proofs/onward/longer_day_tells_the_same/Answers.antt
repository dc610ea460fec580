use Rattle.live_order.proofs.Longer.FactsSame.{batch_same, answer_same, revoked_same, phase_same}
use Rattle.live_order.proofs.Longer.IntakeSame.{code_same}
use Rattle.live_order.proofs.Longer.PendingSame.{pending_same, standing_same, first_blocker_same}
use Rattle.live_order.proofs.Longer.LinesSame.{ready_same}
use Rattle.live_order.proofs.Longer.ReasonsSame.{first_ready_same}
use Rattle.live_order.proofs.onward.longer_day_tells_the_same.Goals as goal

pub returns-clause-batch : goal.returns-clause-batch
returns-clause-batch c = batch_same

pub returns-clause-answer : goal.returns-clause-answer
returns-clause-answer c = answer_same

pub returns-clause-revoked : goal.returns-clause-revoked
returns-clause-revoked c = revoked_same

pub returns-clause-phase : goal.returns-clause-phase
returns-clause-phase c = phase_same

pub returns-clause-code : goal.returns-clause-code
returns-clause-code c = code_same

pub returns-clause-pending : goal.returns-clause-pending
returns-clause-pending c = pending_same

pub returns-clause-standing : goal.returns-clause-standing
returns-clause-standing c = standing_same

pub returns-clause-blocker : goal.returns-clause-blocker
returns-clause-blocker c = first_blocker_same

pub returns-clause-ready : goal.returns-clause-ready
returns-clause-ready c = ready_same

pub returns-clause-first : goal.returns-clause-first
returns-clause-first c = first_ready_same
