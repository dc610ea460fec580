use Rattle.due_items.proofs.HintFacts.{hint_found}
use Rattle.due_items.proofs.wants.message_hint.Goals as goal

pub returns : goal.returns
returns c = λ J stands. hint_found c.args.setting.now.day J c.args.n _ _ _ _ c.want_in.ensures (c.clock.ensures c.args.setting.now.day J stands) (c.answer.ensures c.args.setting.now.day J stands) (c.phase.ensures J stands)
