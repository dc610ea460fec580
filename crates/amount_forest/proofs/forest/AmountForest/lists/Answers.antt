use Rattle.std.proofs.Common.{◌≡◌, length, ap, sym, ◌∙◌, arith}
use Rattle.amount_forest.specs.Lists.{Amounts}
use Rattle.amount_forest.proofs.ForestLemmas.{count_is}
use Rattle.amount_forest.proofs.forest.AmountForest.lists.Goals as goal

pub overflow_cast-result : goal.overflow_cast-result
overflow_cast-result c = let few = c.self.invariant.few in omega arith

pub returns : goal.returns
returns c =
    let s = c.self.inside in
    let len : c.len.result ≡ length s.lasts.items = omega arith in
    len ∙ (sym (count_is s.entries.items (length s.lasts.items)) ∙ ap (λ (a : Amounts). length a.lists) c.self.view_is)
