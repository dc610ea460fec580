use Rattle.trial_day.specs.Trial.{dca}
use Rattle.trial_day.proofs.Making.{more_items}
use Rattle.trial_day.proofs.setup.push_dcas.Goals as goal

pub loop-before-preserved : goal.loop-before-preserved
loop-before-preserved c = more_items dca c.args.accounts.now c.loop-before.before _ _ _ c.loop-before.invariant c.dca.ensures c.in_ok-push.ensures.ok
