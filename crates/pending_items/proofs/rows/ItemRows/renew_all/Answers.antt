use Rattle.std.proofs.Common.{◌≡◌, ◌+◌, ◌≤◌, length, inl, inr, arith}
use Rattle.std.proofs.lemmas.Bool.{cases_lt}
use Rattle.pending_items.specs.Items.{IsAny}
use Rattle.pending_items.proofs.NumberFacts.{item_parts}
use Rattle.pending_items.proofs.RenewFacts.{renewed_more, renewed_none, renewed_then}
use Rattle.pending_items.proofs.rows.ItemRows.renew_all.Goals as goal

pub loop-before-init : goal.loop-before-init
loop-before-init c =
    let day = c.args.setting.now.day in
    renewed_none day c.args.facts.now (λ J x. x.msg ≤ 0) c.args.self.now (λ J x i s h. let first : 1 ≤ x.msg = (item_parts day x i).first in omega (arith, h, first))

pub loop-before-preserved : goal.loop-before-preserved
loop-before-preserved c =
    renewed_then c.args.setting.now.day c.args.facts.now (λ J x. x.msg ≤ c.loop-before.before) (λ J x. x.msg ≡ c.loop-before.before + 1) (λ J x. x.msg ≤ c.loop-before.before + 1) _ _ _
    (λ J x i s h. elim (cases_lt c.loop-before.before x.msg) [
      | inl more ↦ inr (omega (arith, more, h))
      | inr le ↦ inl le
    ]) c.loop-before.invariant c.renew_message.ensures

pub returns : goal.returns
returns c =
    let day = c.args.setting.now.day in
    renewed_more day c.args.facts.now (λ J x. x.msg ≤ c.loop-before.before) (λ J. IsAny) _ _
    (λ J x i s h. let last : x.msg ≤ length day.messages = (item_parts day x i).last in omega (arith, last, c.message_count-before-end.ensures.count)) c.loop-before.invariant
