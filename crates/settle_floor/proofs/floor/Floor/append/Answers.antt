use Rattle.settle_floor.proofs.Appended.{appended_is, at_work_still}
use Rattle.settle_floor.proofs.HeldFacts.{all_held}
use Rattle.settle_floor.proofs.floor.Floor.append.Goals as goal

pub answer-requires-clause-held : goal.answer-requires-clause-held
answer-requires-clause-held g c = all_held _ c.args.setting.now.day c.requires.at_work.all c.args.want

pub returns-clause-lines : goal.returns-clause-lines
returns-clause-lines g c = appended_is c.args.setting.now.day c.args.self.now c.answer.new.self c.args.want _ _ c.answer.result c.answer.ensures.answered

pub returns-clause-at_work : goal.returns-clause-at_work
returns-clause-at_work g c = at_work_still c.args.setting.now.day c.args.self.now c.answer.new.self _ _ c.requires.at_work c.answer.ensures.opened c.answer.ensures.kept c.answer.ensures.same
