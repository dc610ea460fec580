use Rattle.std.proofs.Common.{ap}
use Rattle.settle_floor.specs.Floors.{OnFloor}
use Rattle.settle_floor.proofs.Appended.{at_work_still}
use Rattle.settle_floor.proofs.HeldFacts.{all_held}
use Rattle.settle_floor.proofs.floor.Floor.make.Goals as goal

pub answer-requires-clause-held : goal.answer-requires-clause-held
answer-requires-clause-held g c = all_held _ c.args.setting.now.day c.requires.at_work.all c.args.want

pub returns-in-Ok-clause-made : goal.returns-in-Ok-clause-made
returns-in-Ok-clause-made g c = let made = c.in-Ok.ensures.answered in (made.0, made.1, made.2, made.3)

pub returns-in-Ok-clause-at_work : goal.returns-in-Ok-clause-at_work
returns-in-Ok-clause-at_work g c = at_work_still c.args.setting.now.day c.args.self.now c.answer.new.self _ _ c.requires.at_work c.answer.ensures.opened c.answer.ensures.kept c.answer.ensures.same

pub returns-in-Err-clause-made : goal.returns-in-Err-clause-made
returns-in-Err-clause-made g c = let none = c.in-Err.ensures.answered in (none.3, ap (λ (f : OnFloor). f.journal.history) none.1)

pub returns-in-Err-clause-at_work : goal.returns-in-Err-clause-at_work
returns-in-Err-clause-at_work g c = at_work_still c.args.setting.now.day c.args.self.now c.answer.new.self _ _ c.requires.at_work c.answer.ensures.opened c.answer.ensures.kept c.answer.ensures.same
