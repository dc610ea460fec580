use Rattle.day_reasons.proofs.Settling.{told_while_unmade}
use Rattle.day_reasons.proofs.laws.reasons_while_unmade.Goals as goal

pub returns : goal.returns
returns c = told_while_unmade
