use Rattle.day_chain.specs.Summing.{blank}
use Rattle.day_chain.proofs.Moving.{row_more}
use Rattle.day_chain.proofs.sums.new_sums.Goals as goal

pub loop-before-preserved : goal.loop-before-preserved
loop-before-preserved c = row_more (blank c.args.day.now) _ _ c.loop-before.before _ c.loop-before.invariant c.blank.ensures c.in_ok-push.ensures.items
