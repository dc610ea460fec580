use Rattle.settlement_laws.proofs.ProcedureB.TechnicalIsEmpty.{technical_of_b_is_empty}
use Rattle.settlement_laws.proofs.laws.technical_of_b_is_empty.Goals as goal

pub returns : goal.returns
returns c = technical_of_b_is_empty
