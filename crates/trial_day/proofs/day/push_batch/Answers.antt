use Rattle.trial_day.proofs.Pushing.{goes_on}
use Rattle.trial_day.proofs.day.push_batch.Goals as goal

pub loop-entry-init : goal.loop-entry-init
loop-entry-init c = c.in_ok-push.ensures.ok

pub loop-entry-preserved : goal.loop-entry-preserved
loop-entry-preserved c = goes_on c.args.messages.now c.loop-entry.messages c.push_entry.new.self c.in-Some.entry c.args.message c.loop-entry.yielded c.requires c.loop-entry.invariant c.in_ok-push_entry.ensures.ok
