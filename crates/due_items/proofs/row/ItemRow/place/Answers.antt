use Rattle.std.proofs.Common.{sym, ◌∙◌}
use Rattle.due_items.proofs.RowFacts.{place_first, place_in, place_past}
use Rattle.due_items.proofs.row.ItemRow.place.Goals as goal

pub returns-then-from-eq0 : goal.returns-then-from-eq0
returns-then-from-eq0 c = λ day e. place_first day c.args.from c.if-from-eq0.true

pub returns-then-is_past : goal.returns-then-is_past
returns-then-is_past c = λ day e. place_past day c.args.self.now c.args.from _ e c.count.ensures.count (sym c.is_past.ensures ∙ c.if-is_past.true)

pub returns : goal.returns
returns c = λ day e. place_in day c.args.self.now c.args.from _ _ _ e c.if-from-eq0.false (sym c.is_past.ensures ∙ c.if-is_past.false) c.start-start.ensures c.end-end.ensures c.min.ensures
