use Rattle.std.proofs.Common.{None, Some, refl}
use Rattle.settle_floor.proofs.NextLines.{makes_candidate, while_it_lasts}
use Rattle.settle_floor.proofs.floor.Floor.make_candidate.Goals as goal

pub returns-in-Some-clause-made : goal.returns-in-Some-clause-made
returns-in-Some-clause-made g c =
    let day = c.args.setting.now.day in
    let J = c.args.self.now.journal.history in
    makes_candidate day J c.make.new.self.journal.history c.in-Some.want c.make.result (while_it_lasts day J (Some c.in-Some.want) c.requires.lasts c.in-Some.ensures.first) c.in-Some.ensures.work.1 c.make.ensures.made

pub returns-in-None-clause-made : goal.returns-in-None-clause-made
returns-in-None-clause-made g c = (while_it_lasts c.args.setting.now.day c.args.self.now.journal.history None c.requires.lasts c.in-None.ensures.first, refl)
