use Rattle.std.proofs.Common.{◌≡◌, true}
use Rattle.settlement_laws.proofs.Base.Lists.{never}
use Rattle.pending_items.proofs.RenewFacts.{renewed_more, renewed_none}
use Rattle.pending_items.proofs.items.renew_if.Goals as goal

pub returns-then-not-freed : goal.returns-then-not-freed
returns-then-not-freed c = renewed_none c.args.setting.now.day c.args.facts.now (λ J x. (x.msg ≡ c.args.n) × (c.args.freed ≡ true)) c.args.rows.now (λ J x i s h. never c.args.freed h.1 c.if-not-freed.true)

pub returns : goal.returns
returns c = renewed_more c.args.setting.now.day c.args.facts.now (λ J x. x.msg ≡ c.args.n) (λ J x. (x.msg ≡ c.args.n) × (c.args.freed ≡ true)) _ _ (λ J x i s h. h.0) c.renew_message.ensures
