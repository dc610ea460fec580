use Rattle.settle_floor.proofs.indexed.Told.empty.Goals as goal

pub returns-clause-empty : goal.returns-clause-empty
returns-clause-empty c = λ day few. (c.in_ok-facts.ensures.empty day few, c.in_ok-stops.ensures.keeps day)
