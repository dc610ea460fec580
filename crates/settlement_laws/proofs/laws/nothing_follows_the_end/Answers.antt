use Rattle.settlement_laws.proofs.EachLaw.TakenAsDue.{nothing_follows_the_end}
use Rattle.settlement_laws.proofs.laws.nothing_follows_the_end.Goals as goal

pub returns : goal.returns
returns c = nothing_follows_the_end
