use Rattle.settlement_laws.proofs.Balances.Elsewhere.{old_is_legal}
use Rattle.settlement_laws.proofs.laws.beginnings_are_legal.Goals as goal

pub returns : goal.returns
returns c = old_is_legal
