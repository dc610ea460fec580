use Rattle.std.proofs.Common.{◌<◌, ◌^◌, ℕ, arith, length, subst, sym}
use Rattle.std.specs.Prelude.{IfSome}
use Rattle.number_set.specs.Members.{has}
use Rattle.number_set.specs.Next.{IsNext}
use Rattle.growing_set.specs.Growing.{Growing}
use Rattle.growing_set.proofs.GrowingLemmas.{below_bound, length-flags, next_all}
use Rattle.growing_set.proofs.growing.GrowingSet.next.Goals as goal

pub returns-clause-within : goal.returns-clause-within
returns-clause-within c =
    subst (λ (v : Growing). IfSome c.next.result (λ n. n < length v.set)) c.self.view_is
    (subst (λ (k : ℕ). IfSome c.next.result (λ n. n < k)) (sym (length-flags (has c.self.inside.numbers) c.self.inside.count))
    (below_bound c.self.inside.numbers c.self.inside.count c.args.from c.next.result c.self.invariant.none c.next.ensures.next))

pub returns-clause-next : goal.returns-clause-next
returns-clause-next c =
    subst (λ (v : Growing). IsNext (has v.set) c.args.from c.next.result) c.self.view_is
    (next_all c.self.inside.numbers c.self.inside.count c.args.from c.next.result c.self.invariant.none c.next.ensures.next)

pub returns-clause-small : goal.returns-clause-small
returns-clause-small c =
    subst (λ (v : Growing). length v.set < 2 ^ 32) c.self.view_is
    (let len = length-flags (has c.self.inside.numbers) c.self.inside.count in let few = c.self.invariant.few in omega (arith, len, few))
