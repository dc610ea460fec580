use Rattle.day_reasons.proofs.work.till_and_moves.Goals as goal

pub returns-in-Ok-clause-till : goal.returns-in-Ok-clause-till
returns-in-Ok-clause-till c = c.in_ok-till.ensures

pub returns-in-Ok-clause-moves : goal.returns-in-Ok-clause-moves
returns-in-Ok-clause-moves c = c.in-Ok.ensures
