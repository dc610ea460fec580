use Rattle.std.proofs.Common.{◌≡◌, ◌+◌, ◌-◌, ◌<◌, ◌≤◌, true, inl, inr, arith}
use Rattle.std.proofs.lemmas.Bool.{cases_eq}
use Rattle.number_set.specs.Members.{has}
use Rattle.pending_items.proofs.CycleFacts.{looked_at, one_left}
use Rattle.pending_items.proofs.RenewFacts.{renewed_more, renewed_then}
use Rattle.pending_items.proofs.cycles.renew_block.Goals as goal

pub returns-then-i-first-clause-rows : goal.returns-then-i-first-clause-rows
returns-then-i-first-clause-rows c =
    let day = c.args.setting.now.day in
    let b = c.args.first in
    let old = c.args.batches.now in
    let from = c.loop-i.from in
    let least = c.in-Some.ensures.next in
    renewed_more day c.args.facts.now (λ J x. (b + x.msg < from) × (has old (b + x.msg) ≡ true)) (λ J x. (x.msg < c.args.size) × (has old (b + x.msg) ≡ true)) _ _
    (λ J x i s h.
    let low = h.0 in (
      looked_at day J c.args.size b from old c.loop-i.batches (c.loop-i.invariant.left J s) (b + x.msg) h.1
          (λ ge. least.none_before (b + x.msg) ge (omega (arith, low, c.if-i-first.true))),
      h.1,
    )) c.loop-i.invariant.rows

pub loop-i-preserved : goal.loop-i-preserved
loop-i-preserved c =
    let day = c.args.setting.now.day in
    let b = c.args.first in
    let old = c.args.batches.now in
    let from = c.loop-i.from in
    let i = c.in-Some.i in
    let low : b ≤ from = c.loop-i.invariant.low in
    let least = c.in-Some.ensures.next in
    let above : from ≤ i = least.at_least in
    record {
      rows = renewed_then day c.args.facts.now (λ J x. (b + x.msg < from) × (has old (b + x.msg) ≡ true)) (λ J x. x.msg ≡ i - b) (λ J x. (b + x.msg < i + 1) × (has old (b + x.msg) ≡ true)) _ _ _
          (λ J x ix s h. elim (cases_eq (b + x.msg) i) [
            | inl same ↦ inr (omega (arith, same))
            | inr ne ↦ inl (looked_at day J c.args.size b from old c.loop-i.batches (c.loop-i.invariant.left J s) (b + x.msg) h.1 (λ ge. least.none_before (b + x.msg) ge (omega (arith, h.0, ne))), h.1)
          ]) c.loop-i.invariant.rows c.renew_message.ensures;
      low = omega (arith, low, above);
      left = λ J s. one_left day J c.args.size b from i c.cycle_ended.result old c.loop-i.batches c.take_off_if.new.batches (c.loop-i.invariant.left J s) low above (omega (arith, low, above, c.if-i-first.false)) (c.cycle_ended.ensures J s) c.take_off_if.ensures;
    }

pub returns-clause-rows : goal.returns-clause-rows
returns-clause-rows c =
    let day = c.args.setting.now.day in
    let b = c.args.first in
    let old = c.args.batches.now in
    renewed_more day c.args.facts.now (λ J x. (b + x.msg < c.loop-i.from) × (has old (b + x.msg) ≡ true)) (λ J x. (x.msg < c.args.size) × (has old (b + x.msg) ≡ true)) _ _
    (λ J x i s h. (looked_at day J c.args.size b c.loop-i.from old c.loop-i.batches (c.loop-i.invariant.left J s) (b + x.msg) h.1 (λ ge. c.in_default.ensures.next (b + x.msg) ge), h.1)) c.loop-i.invariant.rows
