use Rattle.std.proofs.Common.{arith}
use Rattle.due_items.proofs.Renews.{renews_first, renews_message, renews_more}
use Rattle.due_items.proofs.renewing.renew_message.Goals as goal

pub loop-k-init : goal.loop-k-init
loop-k-init c = renews_first c.args.setting.now.day c.args.facts.now c.args.index.now c.args.n c.args.flags.now

pub loop-k-preserved : goal.loop-k-preserved
loop-k-preserved c = renews_more c.args.setting.now.day c.args.facts.now c.args.index.now c.args.n c.loop-k.k _ _ _ c.loop-k.invariant c.renew_item.ensures

pub returns : goal.returns
returns c = renews_message c.args.setting.now.day c.args.facts.now c.args.index.now c.args.n c.loop-k.k _ _ _ c.entry_count-k-end.ensures.count (omega (arith, c.loop-k-test.false, c.loop-k.auto.k-end)) c.loop-k.invariant
