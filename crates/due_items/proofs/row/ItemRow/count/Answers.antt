use Rattle.std.proofs.Common.{◌∙◌, length, sym, ap}
use Rattle.due_items.specs.Row.{Row}
use Rattle.due_items.proofs.KeptRow.{kept_length}
use Rattle.due_items.proofs.row.ItemRow.count.Goals as goal

pub returns-clause-count : goal.returns-clause-count
returns-clause-count c =
    ap length c.as_slice.ensures.value
    ∙ (sym (kept_length c.self.inside.starts.items c.self.inside.messages.items)
    ∙ ap (λ (r : Row). length r.items) c.self.view_is)
