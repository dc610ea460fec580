use Rattle.lane_workers.proofs.Seeing.{complete_after}
use Rattle.lane_workers.proofs.rounds.settle.Goals as goal

pub returns-clause-complete : goal.returns-clause-complete
returns-clause-complete g c = complete_after g.H.HallName.day c.run-pass.result.lines c.close.result.0.history c.close.ensures.balanced.legal c.close.ensures.before c.run-pass.ensures.ended
