use Rattle.due_items.specs.declared.chain.Key.TheVariants as keys
use Rattle.due_items.proofs.Walks.{cycle_ends, cycle_last, walk_first, walk_next}
use Rattle.due_items.proofs.renewing.renew_cycle.Goals as goal

pub loop-at-init : goal.loop-at-init
loop-at-init c = walk_first c.args.setting.now.day c.args.facts.now c.args.index.now keys.Cycle c.args.start c.args.flags.now

pub loop-at-preserved : goal.loop-at-preserved
loop-at-preserved c = walk_next c.args.setting.now.day c.args.facts.now c.args.index.now keys.Cycle c.args.start c.loop-at.at _ _ _ _ c.loop-at-test.true c.older-at.ensures.is c.loop-at.invariant c.renew_message.ensures

pub returns-then-is_end_before : goal.returns-then-is_end_before
returns-then-is_end_before c = cycle_ends c.args.setting.now.day c.args.facts.now c.args.index.now c.args.n c.args.start c.loop-at.at _ _ _ c.is_end_before.ensures c.if-is_end_before.true c.loop-at.invariant

pub returns : goal.returns
returns c = cycle_last c.args.setting.now.day c.args.facts.now c.args.index.now c.args.n c.args.start c.loop-at.at _ _ c.loop-at-test.false c.loop-at.invariant
