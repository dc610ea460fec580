use Rattle.live_day.specs.Ends.{own_status}
use Rattle.live_day.proofs.RunningFacts.{runs_whole}
use Rattle.live_day.proofs.top.run.Goals as goal

pub returns-in-Ok : goal.returns-in-Ok
returns-in-Ok g c = runs_whole _ _ own_status c.listen.ensures
