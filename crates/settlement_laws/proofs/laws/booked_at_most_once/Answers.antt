use Rattle.settlement_laws.proofs.EachLaw.OnceAndInOrder.{booked_at_most_once}
use Rattle.settlement_laws.proofs.laws.booked_at_most_once.Goals as goal

pub returns : goal.returns
returns c = booked_at_most_once
