use Rattle.std.proofs.Common.{◌+◌, Bool, List, subst, sym}
use Rattle.liquidity_view.specs.Counted.{AddsUp, Counted}
use Rattle.liquidity_view.proofs.CountFacts.{added, sums_low}
use Rattle.liquidity_view.proofs.counted.Counted.add.Goals as goal

pub invariant_of-self : goal.invariant_of-self
invariant_of-self c =
    let v : Counted = record { set = c.self.inside.set; leaving = c.self.inside.leaving; coming = c.self.inside.coming } in
    sums_low c.args.setting.now.day c.args.name.now _ (added c.args.setting.now.day c.args.name.now v c.args.self.now c.args.number c.args.item c.item_share.result c.item_share-2.result c.self.view_is c.requires.sums c.requires.within c.requires.item c.requires.uncounted
    (c.item_share.ensures.value, c.item_share.ensures.small) (c.item_share-2.ensures.value, c.item_share-2.ensures.small))

pub returns-clause-sums : goal.returns-clause-sums
returns-clause-sums c =
    let v : Counted = record { set = c.self.inside.set; leaving = c.self.inside.leaving; coming = c.self.inside.coming } in
    subst (λ (set : List Bool). AddsUp c.args.setting.now.day c.args.name.now (record { set = set; leaving = v.leaving + c.item_share.result; coming = v.coming + c.item_share-2.result })) (sym c.insert.ensures)
    (added c.args.setting.now.day c.args.name.now v c.args.self.now c.args.number c.args.item c.item_share.result c.item_share-2.result c.self.view_is c.requires.sums c.requires.within c.requires.item c.requires.uncounted
    (c.item_share.ensures.value, c.item_share.ensures.small) (c.item_share-2.ensures.value, c.item_share-2.ensures.small))
