use Rattle.settle_floor.proofs.desk.FloorDeskIndexedDesk.is_at_rest.Goals as goal

pub returns-clause-rest : goal.returns-clause-rest
returns-clause-rest g c = λ h. c.args.self.now.rests (c.are_at_rest.ensures.0 h)
