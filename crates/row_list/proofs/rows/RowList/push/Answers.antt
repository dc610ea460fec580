use Rattle.std.proofs.Common.{◌≡◌, ◌∙◌, ◌+◌, ◌-◌, length, ap, arith}
use Rattle.row_list.specs.Rows.{pushed}
use Rattle.row_list.proofs.CutLemmas.{as_many, goes_on, rows_with}
use Rattle.row_list.proofs.rows.RowList.push.Goals as goal

pub overflow_sub-last : goal.overflow_sub-last
overflow_sub-last g c =
    let many : c.len-last.result ≡ length c.args.self.now.rows = as_many c.self.inside.ends.items c.self.inside.items.items _ _ (c.len-last.ensures ∙ c.self.inside.ends.ok.0) (ap (λ r. r.rows) c.self.view_is) in
    omega (arith, many, c.requires)

pub index_mut-requires : goal.index_mut-requires
index_mut-requires g c =
    let many : c.len-last.result ≡ length c.args.self.now.rows = as_many c.self.inside.ends.items c.self.inside.items.items _ _ (c.len-last.ensures ∙ c.self.inside.ends.ok.0) (ap (λ r. r.rows) c.self.view_is) in
    omega (arith, many, c.requires, c.len-last.ensures)

pub invariant_of-self-2 : goal.invariant_of-self-2
invariant_of-self-2 g c =
    let many : c.len-last.result ≡ length c.args.self.now.rows = as_many c.self.inside.ends.items c.self.inside.items.items _ _ (c.len-last.ensures ∙ c.self.inside.ends.ok.0) (ap (λ r. r.rows) c.self.view_is) in
    let last : length c.self.inside.ends.items ≡ c.len-last.result - 1 + 1 = omega (arith, many, c.requires, c.len-last.ensures, c.self.inside.ends.ok.0) in
    goes_on c.self.inside.ends.items c.self.inside.items.items c.push.new.list.items (c.len-last.result - 1) c.len.result c.args.item c.self.invariant c.in_ok-push.ensures.items (c.len.ensures ∙ c.push.new.list.ok.0) last

pub returns-clause-ok : goal.returns-clause-ok
returns-clause-ok g c =
    let many : c.len-last.result ≡ length c.args.self.now.rows = as_many c.self.inside.ends.items c.self.inside.items.items _ _ (c.len-last.ensures ∙ c.self.inside.ends.ok.0) (ap (λ r. r.rows) c.self.view_is) in
    let last : length c.self.inside.ends.items ≡ c.len-last.result - 1 + 1 = omega (arith, many, c.requires, c.len-last.ensures, c.self.inside.ends.ok.0) in
    rows_with c.self.inside.ends.items c.self.inside.items.items c.push.new.list.items (c.len-last.result - 1) c.len.result c.args.item c.self.invariant c.in_ok-push.ensures.items (c.len.ensures ∙ c.push.new.list.ok.0) last ∙ ap (λ r. (pushed c.args.item r).rows) c.self.view_is
