use Rattle.due_items.proofs.NotingFacts.{told_both}
use Rattle.due_items.proofs.noting.note_told.Goals as goal

pub returns : goal.returns
returns c = told_both c.args.setting.now.day c.args.facts.now c.args.index.now c.args.n _ _ _ c.note_answer.ensures c.note_cycle.ensures
