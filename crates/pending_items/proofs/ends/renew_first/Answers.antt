use Rattle.std.proofs.Common.{◌≡◌, ◌∙◌, List, Option, ℕ, ap, set, subst, sym}
use Rattle.pending_items.specs.Ends.{AreMovedOn, IsMovedOn}
use Rattle.pending_items.proofs.EndFacts.{one_moved_on, only_that}
use Rattle.pending_items.proofs.RenewFacts.{renewed_more}
use Rattle.pending_items.proofs.ends.renew_first.Goals as goal

pub returns-in-Some-clause-rows : goal.returns-in-Some-clause-rows
returns-in-Some-clause-rows c =
    let old = c.args.ends.now.times in
    let time = c.args.time in
    let n = c.in-Some.n in
    renewed_more c.args.setting.now.day c.args.facts.now (λ J x. x.msg ≡ n) (λ J x. IsMovedOn time old c.set_end.new.ends.times x.msg) _ _
    (λ J x i s h. only_that time n old c.next_end.result x.msg (subst (λ (ends : List (Option ℕ)). IsMovedOn time old ends x.msg) c.set_end.ensures.times h)) c.renew_message.ensures

pub returns-in-Some-clause-ends : goal.returns-in-Some-clause-ends
returns-in-Some-clause-ends c =
    let day = c.args.setting.now.day in
    let old = c.args.ends.now.times in
    let time = c.args.time in
    let n = c.in-Some.n in
    let least = c.in-Some.ensures.first in
    subst (AreMovedOn day time old) (sym (c.set_end.ensures.times ∙ ap (set old n) c.next_end.ensures)) (one_moved_on day time n old c.in-Some.ensures.within least.passes)
