use Rattle.std.proofs.Common.{◌-◌, Bool, List, arith, subst, sym}
use Rattle.liquidity_view.specs.Counted.{AddsUp, Counted}
use Rattle.liquidity_view.proofs.CountFacts.{enough_in, enough_out, taken_off}
use Rattle.liquidity_view.proofs.counted.Counted.take_off.Goals as goal

pub overflow_sub-self : goal.overflow_sub-self
overflow_sub-self c =
    let v : Counted = record { set = c.self.inside.set; leaving = c.self.inside.leaving; coming = c.self.inside.coming } in
    let enough = enough_out c.args.setting.now.day c.args.name.now v c.args.self.now c.args.number c.args.item c.item_share.result c.self.view_is c.requires.sums c.requires.within c.requires.item c.requires.counted (c.item_share.ensures.value, c.item_share.ensures.small) in
    omega (arith, enough)

pub overflow_sub-self-2 : goal.overflow_sub-self-2
overflow_sub-self-2 c =
    let v : Counted = record { set = c.self.inside.set; leaving = c.self.inside.leaving; coming = c.self.inside.coming } in
    let enough = enough_in c.args.setting.now.day c.args.name.now v c.args.self.now c.args.number c.args.item c.item_share-2.result c.self.view_is c.requires.sums c.requires.within c.requires.item c.requires.counted (c.item_share-2.ensures.value, c.item_share-2.ensures.small) in
    omega (arith, enough)

pub returns-clause-sums : goal.returns-clause-sums
returns-clause-sums c =
    let v : Counted = record { set = c.self.inside.set; leaving = c.self.inside.leaving; coming = c.self.inside.coming } in
    subst (λ (set : List Bool). AddsUp c.args.setting.now.day c.args.name.now (record { set = set; leaving = v.leaving - c.item_share.result; coming = v.coming - c.item_share-2.result })) (sym c.remove.ensures)
    (taken_off c.args.setting.now.day c.args.name.now v c.args.self.now c.args.number c.args.item c.item_share.result c.item_share-2.result c.self.view_is c.requires.sums c.requires.within c.requires.item c.requires.counted
    (c.item_share.ensures.value, c.item_share.ensures.small) (c.item_share-2.ensures.value, c.item_share-2.ensures.small))
