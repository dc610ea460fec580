use Rattle.live_day.specs.ResumedEnds.{own_resumed}
use Rattle.live_day.proofs.RunningFacts.{runs_whole}
use Rattle.live_day.proofs.resuming.resume.Goals as goal

pub returns-in-Ok-with_room : goal.returns-in-Ok-with_room
returns-in-Ok-with_room g c = runs_whole _ _ own_resumed c.listen.ensures
