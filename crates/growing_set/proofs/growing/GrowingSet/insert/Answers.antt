use Rattle.std.proofs.Common.{◌∙◌, ◌<◌, ℕ, ap, arith, true, length, slice_set, subst, sym, List, Bool}
use Rattle.std.proofs.lemmas.List.{length-set}
use Rattle.number_set.specs.Members.{flags, has}
use Rattle.growing_set.specs.Growing.{Growing, IsGrowing}
use Rattle.growing_set.proofs.GrowingLemmas.{flags-put, length-flags, none_still}
use Rattle.growing_set.proofs.growing.GrowingSet.insert.Goals as goal

pub insert-requires : goal.insert-requires
insert-requires c =
    let low : c.args.n < c.self.inside.count = subst (λ (k : ℕ). c.args.n < k) (sym (sym (length-flags (has c.self.inside.numbers) c.self.inside.count) ∙ ap (λ (v : Growing). length v.set) c.self.view_is)) c.requires in
    let within = c.self.invariant.within in
    omega (arith, low, within)

pub invariant_of-self : goal.invariant_of-self
invariant_of-self c =
    let low : c.args.n < c.self.inside.count = subst (λ (k : ℕ). c.args.n < k) (sym (sym (length-flags (has c.self.inside.numbers) c.self.inside.count) ∙ ap (λ (v : Growing). length v.set) c.self.view_is)) c.requires in
    let within = c.self.invariant.within in
    subst (λ (numbers : List Bool). IsGrowing numbers c.self.inside.count c.self.inside.room) (sym c.insert.ensures) (record {
      within = (let len = length-set c.self.inside.numbers c.args.n true in omega (arith, within, len));
      few = c.self.invariant.few;
      none = none_still c.self.inside.numbers c.self.inside.count c.args.n true low c.self.invariant.none;
    })

pub returns-clause-set : goal.returns-clause-set
returns-clause-set c =
    let low : c.args.n < c.self.inside.count = subst (λ (k : ℕ). c.args.n < k) (sym (sym (length-flags (has c.self.inside.numbers) c.self.inside.count) ∙ ap (λ (v : Growing). length v.set) c.self.view_is)) c.requires in
    let within = c.self.invariant.within in
    ap (λ (numbers : List Bool). flags (has numbers) c.self.inside.count) c.insert.ensures
    ∙ (flags-put c.self.inside.numbers c.self.inside.count c.args.n true low (omega (arith, within)) ∙ ap (λ (v : Growing). slice_set v.set c.args.n true) c.self.view_is)
