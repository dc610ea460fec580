use Rattle.std.proofs.Common.{refl, sym, ◌∙◌}
use Rattle.due_items.proofs.RowFacts.{number_found, number_missed}
use Rattle.due_items.proofs.row.ItemRow.number.Goals as goal

pub returns-then-is_at : goal.returns-then-is_at
returns-then-is_at c = λ day e. number_found day c.args.self.now _ c.args.n c.args.k e (sym c.is_at.ensures ∙ c.if-is_at.true)

pub returns-else-is_at : goal.returns-else-is_at
returns-else-is_at c = λ day e. number_missed day c.args.self.now _ _ c.args.n c.args.k e c.start.ensures refl (sym c.is_at.ensures ∙ c.if-is_at.false)
