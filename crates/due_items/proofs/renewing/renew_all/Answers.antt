use Rattle.std.proofs.Common.{arith}
use Rattle.due_items.proofs.Renews.{renews_all, renews_begin, renews_next}
use Rattle.due_items.proofs.renewing.renew_all.Goals as goal

pub loop-n-init : goal.loop-n-init
loop-n-init c = renews_begin c.args.setting.now.day c.args.facts.now c.args.index.now c.args.flags.now

pub loop-n-preserved : goal.loop-n-preserved
loop-n-preserved c = renews_next c.args.setting.now.day c.args.facts.now c.args.index.now c.loop-n.n _ _ _ c.loop-n.invariant c.renew_message.ensures

pub returns : goal.returns
returns c = renews_all c.args.setting.now.day c.args.facts.now c.args.index.now c.loop-n.n _ _ (omega (arith, c.loop-n-test.false, c.loop-n.auto.n-end, c.message_count-n-end.ensures.count)) c.loop-n.invariant
