use Rattle.std.proofs.Common.{◌∙◌, ap, sym}
use Rattle.number_set.specs.Members.{has}
use Rattle.liquidity_view.specs.Counted.{Counted}
use Rattle.liquidity_view.proofs.CountFacts.{differs_off, differs_on, set_same}
use Rattle.liquidity_view.proofs.counted.Counted.put.Goals as goal

pub returns-then-is_same-clause-set : goal.returns-then-is_same-clause-set
returns-then-is_same-clause-set c =
    sym (set_same c.args.self.now.set c.args.number c.args.counts c.requires.within (ap (λ (v : Counted). has v.set c.args.number) (sym c.self.view_is) ∙ (sym c.contains.ensures ∙ c.is_same.ensures.0 c.if-is_same.true)))

pub add-requires-clause-uncounted : goal.add-requires-clause-uncounted
add-requires-clause-uncounted c =
    ap (λ (v : Counted). has v.set c.args.number) (sym c.self.view_is) ∙ (sym c.contains.ensures ∙ differs_on c.contains.result c.args.counts c.is_same.result c.is_same.ensures c.if-is_same.false c.if-counts.true)

pub take_off-requires-clause-counted : goal.take_off-requires-clause-counted
take_off-requires-clause-counted c =
    ap (λ (v : Counted). has v.set c.args.number) (sym c.self.view_is) ∙ (sym c.contains.ensures ∙ differs_off c.contains.result c.args.counts c.is_same.result c.is_same.ensures c.if-is_same.false c.if-counts.false)
