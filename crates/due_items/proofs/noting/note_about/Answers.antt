use Rattle.due_items.proofs.NotingFacts.{about_alone, about_told}
use Rattle.due_items.proofs.noting.note_about.Goals as goal

pub returns-then-takes_well : goal.returns-then-takes_well
returns-then-takes_well c = about_told c.args.setting.now.day c.args.facts.now c.args.index.now c.args.head _ _ _ c.renew_message.ensures c.note_told.ensures

pub returns-else-takes_well : goal.returns-else-takes_well
returns-else-takes_well c = about_alone c.args.setting.now.day c.args.facts.now c.args.index.now c.args.head _ _ _ c.takes_well.ensures c.if-takes_well.false c.renew_message.ensures
