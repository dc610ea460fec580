use Rattle.std.proofs.Common.{◌≡◌, ◌+◌, ◌<◌, ◌≤◌, length, inl, inr, ap, arith}
use Rattle.std.proofs.lemmas.Bool.{cases_lt}
use Rattle.machine.specs.Records.Messages.{entries}
use Rattle.pending_items.proofs.NumberFacts.{item_parts}
use Rattle.pending_items.proofs.RenewFacts.{renewed_more, renewed_none, renewed_then}
use Rattle.pending_items.proofs.rows.ItemRows.renew_message.Goals as goal

pub loop-k-init : goal.loop-k-init
loop-k-init c = renewed_none c.args.setting.now.day c.args.facts.now (λ J x. (x.msg ≡ c.args.n) × (x.entry < 0)) c.args.self.now (λ J x i s h. omega (arith, h.1))

pub loop-k-preserved : goal.loop-k-preserved
loop-k-preserved c =
    renewed_then c.args.setting.now.day c.args.facts.now (λ J x. (x.msg ≡ c.args.n) × (x.entry < c.loop-k.k)) (λ J x. x ≡ record { msg = c.args.n; entry = c.loop-k.k }) (λ J x. (x.msg ≡ c.args.n) × (x.entry < c.loop-k.k + 1)) _ _ _
    (λ J x i s h. elim (cases_lt x.entry c.loop-k.k) [
      | inl less ↦ inl (h.0, less)
      | inr ge ↦ (let same : x.entry ≡ c.loop-k.k = omega (arith, ge, h.1) in inr (λ t. record { msg = h.0 t; entry = same t }))
    ]) c.loop-k.invariant c.renew.ensures

pub returns : goal.returns
returns c =
    let day = c.args.setting.now.day in
    renewed_more day c.args.facts.now (λ J x. (x.msg ≡ c.args.n) × (x.entry < c.loop-k.k)) (λ J x. x.msg ≡ c.args.n) _ _
    (λ J x i s h.
    let within : x.entry ≤ length (entries day x.msg) = (item_parts day x i).within in
    let same : length (entries day x.msg) ≡ length (entries day c.args.n) = ap (λ n. length (entries day n)) h in
    (h, omega (arith, within, same, c.entry_count-k-end.ensures.count))) c.loop-k.invariant
