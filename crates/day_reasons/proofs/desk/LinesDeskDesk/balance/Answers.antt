use Rattle.day_reasons.proofs.desk.LinesDeskDesk.balance.Goals as goal

pub returns : goal.returns
returns c = c.args.self.now.kept c.args.a _ c.balance.ensures
