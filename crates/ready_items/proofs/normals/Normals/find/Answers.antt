use Rattle.std.proofs.Common.{length, subst, sym}
use Rattle.amount_forest.specs.Lists.{list_at, numbers_at}
use Rattle.ready_items.specs.Normals.{HavePayments, IsFirstFit, Normals}
use Rattle.ready_items.proofs.NormalFacts.{find_any}
use Rattle.ready_items.proofs.normals.Normals.find.Goals as goal

pub returns : goal.returns
returns c = λ day J have right.
    let v : Normals = record { lists = c.self.inside.amounts.lists; numbers = c.self.inside.amounts.numbers; spots = c.self.inside.spots.items; room = c.self.inside.room } in
    let inside : HavePayments day (length day.messages) v = subst (HavePayments day (length day.messages)) (sym c.self.view_is) have in
    find_any day J c.args.self.now c.args.a c.args.from c.args.most have right c.first.result
    (subst (λ (w : Normals). IsFirstFit (numbers_at w.numbers c.args.a) (list_at w.lists c.args.a) c.args.from c.args.most c.first.result) c.self.view_is
    (c.first.ensures (inside.sizes c.args.a) (inside.rise c.args.a)))
