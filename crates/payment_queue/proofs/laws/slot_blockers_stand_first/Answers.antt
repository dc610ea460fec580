use Rattle.payment_queue.proofs.LawLemmas.{slot_blockers_stand_first}
use Rattle.payment_queue.proofs.laws.slot_blockers_stand_first.Goals as goal

pub returns : goal.returns
returns c = slot_blockers_stand_first
