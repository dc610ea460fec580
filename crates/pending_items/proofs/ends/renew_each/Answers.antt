use Rattle.std.proofs.Common.{◌≡◌, ◌+◌, ◌<◌, true, set, inl, inr, sym, ap, ◌∙◌, subst, arith}
use Rattle.std.proofs.lemmas.Bool.{cases_eq}
use Rattle.least_tree.specs.Amounts.{fits_at}
use Rattle.pending_items.proofs.EndFacts.{AreMovedTo, all_moved, looked_at, one_moved}
use Rattle.pending_items.proofs.RenewFacts.{renewed_more, renewed_then}
use Rattle.pending_items.proofs.ends.renew_each.Goals as goal

pub loop-n-preserved : goal.loop-n-preserved
loop-n-preserved c =
    let day = c.args.setting.now.day in
    let old = c.args.ends.now.times in
    let time = c.args.time in
    let from = c.loop-n.from in
    let n = c.in-Some.n in
    let least = c.in-Some.ensures.first in
    record {
      rows = renewed_then day c.args.facts.now (λ J x. (x.msg < from) × (fits_at old time x.msg ≡ true)) (λ J x. x.msg ≡ n) (λ J x. (x.msg < n + 1) × (fits_at old time x.msg ≡ true)) _ _ _
          (λ J x i s h. elim (cases_eq x.msg n) [
            | inl same ↦ inr same
            | inr ne ↦ inl (looked_at day time from old c.loop-n.ends.times c.loop-n.invariant.ends x.msg h.1 (λ ge. least.none_before x.msg ge (omega (arith, h.0, ne))), h.1)
          ]) c.loop-n.invariant.rows c.renew_message.ensures;
      ends = subst (AreMovedTo day time (n + 1) old) (sym (c.set_end.ensures.times ∙ ap (set c.loop-n.ends.times n) c.next_end.ensures)) (one_moved day time from n old c.loop-n.ends.times c.loop-n.invariant.ends c.in-Some.ensures.within least);
      room = c.set_end.ensures.room ∙ c.loop-n.invariant.room;
    }

pub returns-clause-rows : goal.returns-clause-rows
returns-clause-rows c =
    let day = c.args.setting.now.day in
    let old = c.args.ends.now.times in
    renewed_more day c.args.facts.now (λ J x. (x.msg < c.loop-n.from) × (fits_at old c.args.time x.msg ≡ true)) (λ J x. fits_at old c.args.time x.msg ≡ true) _ _
    (λ J x i s h. (looked_at day c.args.time c.loop-n.from old c.loop-n.ends.times c.loop-n.invariant.ends x.msg h (λ ge. c.in_default.ensures.first x.msg ge), h)) c.loop-n.invariant.rows

pub returns-clause-ends : goal.returns-clause-ends
returns-clause-ends c = all_moved c.args.setting.now.day c.args.time c.loop-n.from c.args.ends.now.times c.loop-n.ends.times c.loop-n.invariant.ends c.in_default.ensures.first
