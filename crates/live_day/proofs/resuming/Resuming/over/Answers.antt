use Rattle.std.proofs.Common.{refl}
use Rattle.live_day.proofs.ResumedSteps.{none_before, none_header}
use Rattle.live_day.proofs.resuming.Resuming.over.Goals as goal

pub returns : goal.returns
returns g c = record { size = refl; at = (c.requires.none, none_before, none_header, c.requires.first) }
