use Rattle.due_items.proofs.Renews.{renews_missing, renews_this}
use Rattle.due_items.proofs.renewing.renew_item.Goals as goal

pub returns-in_default : goal.returns-in_default
returns-in_default c = renews_missing c.args.setting.now.day c.args.facts.now c.args.index.now c.args.n c.args.k c.args.flags.now (c.in_default.ensures c.args.setting.now.day)

pub returns : goal.returns
returns c = renews_this c.args.setting.now.day c.args.facts.now c.args.index.now c.args.n c.args.k _ _ c.args.flags.now _ (c.in-Some.ensures c.args.setting.now.day) c.is_due-due.ensures c.put.ensures
