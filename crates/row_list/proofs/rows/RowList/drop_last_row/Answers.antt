use Rattle.std.proofs.Common.{◌≡◌, ◌∙◌, ◌+◌, ◌-◌, ◌∷◌, get_or, length, ap, arith}
use Rattle.row_list.specs.Cut.{cut}
use Rattle.row_list.specs.Rows.{last_row, without_last}
use Rattle.row_list.proofs.CutLemmas.{as_many, freed, rises_without, rows_without, same_shown}
use Rattle.row_list.proofs.rows.RowList.drop_last_row.Goals as goal

pub overflow_sub-last : goal.overflow_sub-last
overflow_sub-last g c =
    let many : c.len-last.result ≡ length c.args.self.now.rows = as_many c.self.inside.ends.items c.self.inside.items.items _ _ (c.len-last.ensures ∙ c.self.inside.ends.ok.0) (ap (λ r. r.rows) c.self.view_is) in
    omega (arith, many, c.requires)

pub invariant_of-self : goal.invariant_of-self
invariant_of-self g c =
    let many : c.len-last.result ≡ length c.args.self.now.rows = as_many c.self.inside.ends.items c.self.inside.items.items _ _ (c.len-last.ensures ∙ c.self.inside.ends.ok.0) (ap (λ r. r.rows) c.self.view_is) in
    let last : length c.self.inside.ends.items ≡ c.len-last.result - 1 + 1 = omega (arith, many, c.requires, c.len-last.ensures, c.self.inside.ends.ok.0) in
    let start : c.start_of-start.result ≡ get_or (0 ∷ c.self.inside.ends.items) (c.len-last.result - 1) 0 = c.start_of-start.ensures ∙ ap (λ es. get_or (0 ∷ es) (c.len-last.result - 1) 0) c.as_slice.ensures.value in
    rises_without c.self.inside.ends.items c.truncate-2.new.self.items c.self.inside.items.items c.truncate.new.self.items (c.len-last.result - 1) c.start_of-start.result c.self.invariant last start c.truncate-2.ensures.items c.truncate.ensures.items

pub returns : goal.returns
returns g c =
    let many : c.len-last.result ≡ length c.args.self.now.rows = as_many c.self.inside.ends.items c.self.inside.items.items _ _ (c.len-last.ensures ∙ c.self.inside.ends.ok.0) (ap (λ r. r.rows) c.self.view_is) in
    let last : length c.self.inside.ends.items ≡ c.len-last.result - 1 + 1 = omega (arith, many, c.requires, c.len-last.ensures, c.self.inside.ends.ok.0) in
    let start : c.start_of-start.result ≡ get_or (0 ∷ c.self.inside.ends.items) (c.len-last.result - 1) 0 = c.start_of-start.ensures ∙ ap (λ es. get_or (0 ∷ es) (c.len-last.result - 1) 0) c.as_slice.ensures.value in
    same_shown _ _ _ _ _ _
    (rows_without c.self.inside.ends.items c.truncate-2.new.self.items c.self.inside.items.items c.truncate.new.self.items (c.len-last.result - 1) c.start_of-start.result c.self.invariant last start c.truncate-2.ensures.items c.truncate.ensures.items) (omega (arith, last, c.truncate-2.ensures.len, c.truncate-2.ensures.capacity, c.self.inside.ends.ok.0, c.self.inside.ends.ok.1)) (let back : length c.self.inside.items.items ≡ length c.truncate.new.self.items + length (last_row (cut 0 c.self.inside.ends.items c.self.inside.items.items)) = freed c.self.inside.ends.items c.self.inside.items.items c.truncate.new.self.items (c.len-last.result - 1) c.start_of-start.result c.self.invariant last start c.truncate.ensures.items in omega (arith, back, c.truncate.ensures.capacity, c.self.inside.items.ok.0, c.self.inside.items.ok.1, c.truncate.new.self.ok.0)) ∙ ap without_last c.self.view_is
