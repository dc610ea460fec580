use Rattle.std.proofs.Common.{◌≡◌, ◌∙◌, ◌+◌, ◌-◌, length, ap, refl, arith}
use Rattle.row_list.specs.Rows.{pushed}
use Rattle.row_list.proofs.CutLemmas.{as_many, goes_on, rows_with, same_shown}
use Rattle.row_list.proofs.rows.RowList.push_in_room.Goals as goal

pub overflow_sub-last : goal.overflow_sub-last
overflow_sub-last g c =
    let many : c.len-last.result ≡ length c.args.self.now.rows = as_many c.self.inside.ends.items c.self.inside.items.items _ _ (c.len-last.ensures ∙ c.self.inside.ends.ok.0) (ap (λ r. r.rows) c.self.view_is) in
    omega (arith, many, c.requires.row)

pub index_mut-requires : goal.index_mut-requires
index_mut-requires g c =
    let many : c.len-last.result ≡ length c.args.self.now.rows = as_many c.self.inside.ends.items c.self.inside.items.items _ _ (c.len-last.ensures ∙ c.self.inside.ends.ok.0) (ap (λ r. r.rows) c.self.view_is) in
    omega (arith, many, c.requires.row, c.len-last.ensures)

pub invariant_of-self : goal.invariant_of-self
invariant_of-self g c =
    let many : c.len-last.result ≡ length c.args.self.now.rows = as_many c.self.inside.ends.items c.self.inside.items.items _ _ (c.len-last.ensures ∙ c.self.inside.ends.ok.0) (ap (λ r. r.rows) c.self.view_is) in
    let last : length c.self.inside.ends.items ≡ c.len-last.result - 1 + 1 = omega (arith, many, c.requires.row, c.len-last.ensures, c.self.inside.ends.ok.0) in
    goes_on c.self.inside.ends.items c.self.inside.items.items c.push_reserved.new.self.items (c.len-last.result - 1) c.len.result c.args.item c.self.invariant c.push_reserved.ensures.items (c.len.ensures ∙ c.push_reserved.new.self.ok.0) last

pub returns : goal.returns
returns g c =
    let many : c.len-last.result ≡ length c.args.self.now.rows = as_many c.self.inside.ends.items c.self.inside.items.items _ _ (c.len-last.ensures ∙ c.self.inside.ends.ok.0) (ap (λ r. r.rows) c.self.view_is) in
    let last : length c.self.inside.ends.items ≡ c.len-last.result - 1 + 1 = omega (arith, many, c.requires.row, c.len-last.ensures, c.self.inside.ends.ok.0) in
    same_shown _ _ _ _ _ _
    (rows_with c.self.inside.ends.items c.self.inside.items.items c.push_reserved.new.self.items (c.len-last.result - 1) c.len.result c.args.item c.self.invariant c.push_reserved.ensures.items (c.len.ensures ∙ c.push_reserved.new.self.ok.0) last)
    refl
    (omega (arith, c.push_reserved.ensures.len, c.push_reserved.ensures.capacity))
    ∙ ap (pushed c.args.item) c.self.view_is
