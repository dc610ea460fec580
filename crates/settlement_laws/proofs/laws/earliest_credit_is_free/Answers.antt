use Rattle.settlement_laws.proofs.ProcedureA.EarliestCreditIsFree.{earliest_credit_is_free}
use Rattle.settlement_laws.proofs.laws.earliest_credit_is_free.Goals as goal

pub returns : goal.returns
returns c = earliest_credit_is_free
