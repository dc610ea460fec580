use Rattle.std.proofs.Common.{◌∙◌, length, ap, sym}
use Rattle.row_list.proofs.CutLemmas.{cut_length}
use Rattle.row_list.proofs.rows.RowList.rows.Goals as goal

pub returns : goal.returns
returns g c = c.len.ensures ∙ c.self.inside.ends.ok.0 ∙ sym (cut_length 0 c.self.inside.ends.items c.self.inside.items.items) ∙ ap (λ r. length r.rows) c.self.view_is
