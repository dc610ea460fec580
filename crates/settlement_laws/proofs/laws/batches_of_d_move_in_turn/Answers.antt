use Rattle.settlement_laws.proofs.ProcedureD.MovesInTurn.{batches_of_d_move_in_turn}
use Rattle.settlement_laws.proofs.laws.batches_of_d_move_in_turn.Goals as goal

pub returns : goal.returns
returns c = batches_of_d_move_in_turn
