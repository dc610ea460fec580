use Rattle.std.proofs.Common.{◌∙◌, ap, sym, subst}
use Rattle.std.specs.Prelude.{slice_get}
use Rattle.due_items.specs.Index.{Index}
use Rattle.due_items.specs.Kept.{KeepsDue}
use Rattle.due_items.proofs.RowFacts.{item_at}
use Rattle.due_items.proofs.items.DueItems.item.Goals as goal

pub returns : goal.returns
returns c = λ day J keeps low. let inside : KeepsDue day J (record { index = c.self.inside.index; set = c.self.inside.flags.due; renewed = c.self.inside.flags.renewed; room = c.self.inside.flags.room }) = subst (KeepsDue day J) (sym c.self.view_is) keeps in
    c.item.ensures ∙ ap (λ (x : Index). slice_get x.row.items c.args.number) inside.index ∙ item_at day c.args.number low
