use Rattle.settlement_laws.proofs.EachLaw.QueueIsInOrder.{queue_is_in_order}
use Rattle.settlement_laws.proofs.laws.queue_is_in_order.Goals as goal

pub returns : goal.returns
returns c = queue_is_in_order
