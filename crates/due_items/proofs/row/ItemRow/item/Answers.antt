use Rattle.std.proofs.Common.{◌∙◌, ap}
use Rattle.std.specs.Prelude.{slice_get}
use Rattle.due_items.specs.Row.{Row, items_kept}
use Rattle.due_items.proofs.row.ItemRow.item.Goals as goal

pub returns : goal.returns
returns c =
    c.item_at.ensures
    ∙ ((λ i. slice_get (items_kept (c.as_slice.ensures.value i) (c.as_slice-2.ensures.value i)) c.args.i)
    ∙ ap (λ (r : Row). slice_get r.items c.args.i) c.self.view_is)
