use Rattle.due_items.proofs.NotingFacts.{book_all, book_alone}
use Rattle.due_items.proofs.noting.note_book.Goals as goal

pub returns-then-frees_credits : goal.returns-then-frees_credits
returns-then-frees_credits c = book_all c.args.setting.now.day c.args.facts.now c.args.index.now c.args.n c.args.k _ _ _ c.renew_item.ensures c.renew_message.ensures

pub returns-else-frees_credits : goal.returns-else-frees_credits
returns-else-frees_credits c = book_alone c.args.setting.now.day c.args.facts.now c.args.index.now c.args.n c.args.k _ _ _ c.renew_item.ensures c.frees_credits.ensures c.if-frees_credits.false
