use Rattle.std.proofs.Common.{◌∙◌, ap}
use Rattle.row_list.specs.Rows.{begun}
use Rattle.row_list.proofs.CutLemmas.{begins, rows_begun}
use Rattle.row_list.proofs.rows.RowList.begin_row.Goals as goal

pub invariant_of-self-2 : goal.invariant_of-self-2
invariant_of-self-2 g c = begins c.self.inside.ends.items _ c.self.inside.items.items c.len.result c.self.invariant (c.len.ensures ∙ c.self.inside.items.ok.0) c.in_ok-push.ensures.items

pub returns-clause-ok : goal.returns-clause-ok
returns-clause-ok g c =
    rows_begun c.self.inside.ends.items _ c.self.inside.items.items c.len.result c.self.invariant (c.len.ensures ∙ c.self.inside.items.ok.0) c.in_ok-push.ensures.items
    ∙ ap (λ r. (begun r).rows) c.self.view_is
