use Rattle.std.proofs.Common.{◌∙◌, ◌<◌, ℕ, ap, arith, length, subst, sym}
use Rattle.number_set.specs.Members.{has}
use Rattle.growing_set.specs.Growing.{Growing}
use Rattle.growing_set.proofs.GrowingLemmas.{has-flags, length-flags}
use Rattle.growing_set.proofs.growing.GrowingSet.contains.Goals as goal

pub contains-requires : goal.contains-requires
contains-requires c =
    let low : c.args.n < c.self.inside.count = subst (λ (k : ℕ). c.args.n < k) (sym (sym (length-flags (has c.self.inside.numbers) c.self.inside.count) ∙ ap (λ (v : Growing). length v.set) c.self.view_is)) c.requires in
    let within = c.self.invariant.within in
    omega (arith, low, within)

pub returns : goal.returns
returns c =
    let low : c.args.n < c.self.inside.count = subst (λ (k : ℕ). c.args.n < k) (sym (sym (length-flags (has c.self.inside.numbers) c.self.inside.count) ∙ ap (λ (v : Growing). length v.set) c.self.view_is)) c.requires in
    let within = c.self.invariant.within in
    c.contains.ensures ∙ (sym (has-flags (has c.self.inside.numbers) c.self.inside.count c.args.n low) ∙ ap (λ (v : Growing). has v.set c.args.n) c.self.view_is)
