use Rattle.due_items.proofs.NotingFacts.{met_about, met_book, met_time}
use Rattle.due_items.proofs.noting.note_line.Goals as goal

pub returns-then-is_book : goal.returns-then-is_book
returns-then-is_book c = met_book c.args.setting.now.day c.args.facts.now c.args.index.now c.args.head _ _ _ c.is_book.ensures c.if-is_book.true c.note_book.ensures

pub returns-then-is_time : goal.returns-then-is_time
returns-then-is_time c = met_time c.args.setting.now.day c.args.facts.now c.args.index.now c.args.head _ _ _ _ c.is_book.ensures c.if-is_book.false c.is_time.ensures c.if-is_time.true c.note_time.ensures

pub returns : goal.returns
returns c = met_about c.args.setting.now.day c.args.facts.now c.args.index.now c.args.head _ _ _ _ c.is_book.ensures c.if-is_book.false c.is_time.ensures c.if-is_time.false c.note_about.ensures
