use Rattle.trial_day.specs.Trial.{technical_accounts}
use Rattle.trial_day.proofs.Making.{more_lists}
use Rattle.trial_day.proofs.setup.push_technicals.Goals as goal

pub loop-before-preserved : goal.loop-before-preserved
loop-before-preserved c = more_lists technical_accounts c.args.accounts.now c.loop-before.before _ _ c.loop-before.invariant c.in_ok-push_technicals_of.ensures
