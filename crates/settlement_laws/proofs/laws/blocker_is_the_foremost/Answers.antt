use Rattle.settlement_laws.proofs.Wants.BlockerIsTheForemost.{blocker_is_the_foremost}
use Rattle.settlement_laws.proofs.laws.blocker_is_the_foremost.Goals as goal

pub returns : goal.returns
returns c = blocker_is_the_foremost
