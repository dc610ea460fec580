use Rattle.std.proofs.Common.{◌∙◌, ap, refl, arith}
use Rattle.row_list.specs.Rows.{begun}
use Rattle.row_list.proofs.CutLemmas.{begins, rows_begun, same_shown}
use Rattle.row_list.proofs.rows.RowList.begin_row_in_room.Goals as goal

pub invariant_of-self : goal.invariant_of-self
invariant_of-self g c = begins c.self.inside.ends.items _ c.self.inside.items.items c.len.result c.self.invariant (c.len.ensures ∙ c.self.inside.items.ok.0) c.push_reserved.ensures.items

pub returns : goal.returns
returns g c =
    same_shown _ _ _ _ _ _
    (rows_begun c.self.inside.ends.items _ c.self.inside.items.items c.len.result c.self.invariant (c.len.ensures ∙ c.self.inside.items.ok.0) c.push_reserved.ensures.items)
    (omega (arith, c.push_reserved.ensures.len, c.push_reserved.ensures.capacity))
    refl
    ∙ ap begun c.self.view_is
