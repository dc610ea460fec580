use Rattle.day_reasons.proofs.Pending.{pending_wait}
use Rattle.day_reasons.proofs.laws.pending_items_wait.Goals as goal

pub returns : goal.returns
returns c = pending_wait
