use Rattle.std.proofs.Common.{◌≡◌, sym, ◌∙◌}
use Rattle.pending_items.specs.Concerned.{IsNamed}
use Rattle.pending_items.proofs.RenewFacts.{renewed_more, renewed_none, same_number, not_named}
use Rattle.pending_items.proofs.items.renew_named.Goals as goal

pub returns-in-Some : goal.returns-in-Some
returns-in-Some c =
    let day = c.args.setting.now.day in
    renewed_more day c.args.facts.now (λ J x. x.msg ≡ c.in-Some.b) (λ J x. IsNamed day c.args.m x.msg) _ _ (λ J x i s h. sym (same_number _ _ (c.in-Some.ensures ∙ h))) c.renew_message.ensures

pub returns-in-None : goal.returns-in-None
returns-in-None c =
    let day = c.args.setting.now.day in
    renewed_none day c.args.facts.now (λ J x. IsNamed day c.args.m x.msg) c.args.rows.now (λ J x i s h. not_named _ _ (sym c.in-None.ensures) h)
