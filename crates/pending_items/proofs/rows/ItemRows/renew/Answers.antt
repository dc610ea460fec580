use Rattle.std.proofs.Common.{◌≡◌, sym, ap, ◌∙◌}
use Rattle.settlement_laws.proofs.Base.Lists.{never}
use Rattle.pending_items.specs.Numbers.{is_item}
use Rattle.pending_items.proofs.RenewFacts.{renewed_none}
use Rattle.pending_items.proofs.rows.ItemRows.renew.Goals as goal

pub returns-then-not-is_item : goal.returns-then-not-is_item
returns-then-not-is_item c =
    let day = c.args.setting.now.day in
    renewed_none day c.args.facts.now (λ J x. x ≡ c.args.item) c.args.self.now (λ J x i s same. never (is_item day x) i (ap (is_item day) same ∙ (sym c.is_item.ensures ∙ c.if-not-is_item.true)))
