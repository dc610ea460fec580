use Rattle.std.proofs.Common.{[]}
use Rattle.trial_day.specs.Trial.{trial_system}
use Rattle.trial_day.proofs.Making.{more_items}
use Rattle.trial_day.proofs.setup.trial_systems.Goals as goal

pub loop-before-preserved : goal.loop-before-preserved
loop-before-preserved c = more_items trial_system [] c.loop-before.before _ _ _ c.loop-before.invariant c.trial_system.ensures c.in_ok-push.ensures.ok
