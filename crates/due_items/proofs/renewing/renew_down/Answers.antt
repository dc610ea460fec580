use Rattle.due_items.proofs.Walks.{walk_first, walk_last, walk_next}
use Rattle.due_items.proofs.renewing.renew_down.Goals as goal

pub loop-at-init : goal.loop-at-init
loop-at-init c = walk_first c.args.setting.now.day c.args.facts.now c.args.index.now c.args.key c.args.start c.args.flags.now

pub loop-at-preserved : goal.loop-at-preserved
loop-at-preserved c = walk_next c.args.setting.now.day c.args.facts.now c.args.index.now c.args.key c.args.start c.loop-at.at _ _ _ _ c.loop-at-test.true c.older-at.ensures.is c.loop-at.invariant c.renew_message.ensures

pub returns : goal.returns
returns c = walk_last c.args.setting.now.day c.args.facts.now c.args.index.now c.args.key c.args.start c.loop-at.at _ _ c.loop-at-test.false c.loop-at.invariant
