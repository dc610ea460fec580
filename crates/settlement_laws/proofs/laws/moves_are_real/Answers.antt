use Rattle.settlement_laws.proofs.Balances.MovesAreReal.{moves_are_real}
use Rattle.settlement_laws.proofs.laws.moves_are_real.Goals as goal

pub returns : goal.returns
returns c = moves_are_real
