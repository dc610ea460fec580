use Rattle.due_items.proofs.NotingFacts.{answer_named, answer_unnamed}
use Rattle.due_items.proofs.noting.note_answer.Goals as goal

pub returns-in-Some : goal.returns-in-Some
returns-in-Some c = answer_named c.args.setting.now.day c.args.facts.now c.args.index.now c.args.n _ _ _ c.in-Some.ensures c.renew_message.ensures

pub returns-in_default : goal.returns-in_default
returns-in_default c = answer_unnamed c.args.setting.now.day c.args.facts.now c.args.index.now c.args.n c.args.flags.now c.in_default.ensures
