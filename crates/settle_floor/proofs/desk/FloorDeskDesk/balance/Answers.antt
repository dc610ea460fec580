use Rattle.settle_floor.proofs.desk.FloorDeskDesk.balance.Goals as goal

pub returns : goal.returns
returns g c = c.args.self.now.kept c.args.a _ c.balance.ensures
