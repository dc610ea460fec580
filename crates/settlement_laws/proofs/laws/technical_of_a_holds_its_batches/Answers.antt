use Rattle.settlement_laws.proofs.ProcedureA.HeldByA.{holds_its_batches, no_part_is_below_zero}
use Rattle.settlement_laws.proofs.laws.technical_of_a_holds_its_batches.Goals as goal

pub returns-clause-holds : goal.returns-clause-holds
returns-clause-holds c = holds_its_batches

pub returns-clause-parts : goal.returns-clause-parts
returns-clause-parts c = no_part_is_below_zero
