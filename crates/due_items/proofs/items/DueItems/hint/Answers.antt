use Rattle.std.proofs.Common.{◌∙◌}
use Rattle.due_items.proofs.FirstFacts.{hint_none, hint_some}
use Rattle.due_items.proofs.items.DueItems.hint.Goals as goal

pub returns-in-Some : goal.returns-in-Some
returns-in-Some c = λ J stands keeps. c.want_of.ensures J stands ∙ hint_some c.args.setting.now.day J c.args.from _ (c.in-Some.ensures c.args.setting.now.day J keeps)

pub returns-in-None : goal.returns-in-None
returns-in-None c = λ J stands keeps. hint_none c.args.setting.now.day J c.args.from (c.in-None.ensures c.args.setting.now.day J keeps)
