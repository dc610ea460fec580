use Rattle.std.proofs.Common.{◌∙◌, length, ap, sym, sum_by}
use Rattle.row_list.proofs.CutLemmas.{all_items}
use Rattle.row_list.proofs.rows.RowList.item_count.Goals as goal

pub returns : goal.returns
returns g c = c.len.ensures ∙ c.self.inside.items.ok.0 ∙ sym (all_items c.self.inside.ends.items c.self.inside.items.items c.self.invariant) ∙ ap (λ r. sum_by length r.rows) c.self.view_is
