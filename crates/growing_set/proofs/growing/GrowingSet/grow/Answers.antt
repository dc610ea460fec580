use Rattle.std.proofs.Common.{◌∙◌, ◌≤◌, ap, arith, false, replicate, subst, sym, ◌++◌}
use Rattle.growing_set.specs.Growing.{Growing}
use Rattle.growing_set.proofs.GrowingLemmas.{flags-grown}
use Rattle.growing_set.proofs.growing.GrowingSet.grow.Goals as goal

pub overflow_add-self : goal.overflow_add-self
overflow_add-self c =
    let by : c.args.by ≤ c.self.inside.room = subst (λ (v : Growing). c.args.by ≤ v.room) (sym c.self.view_is) c.requires in
    let few = c.self.invariant.few in
    omega (arith, by, few)

pub returns-clause-set : goal.returns-clause-set
returns-clause-set c =
    flags-grown c.self.inside.numbers c.self.inside.count c.args.by c.self.invariant.none ∙ ap (λ (v : Growing). v.set ++ replicate c.args.by false) c.self.view_is
