use Rattle.live_order.proofs.Longer.LinesSame.{line_same}
use Rattle.live_order.proofs.Longer.ReasonsSame.{why_same}
use Rattle.live_order.proofs.Longer.LegalSame.{same_legal}
use Rattle.live_order.proofs.Events.Cuts.{sound_goes_on}
use Rattle.live_order.proofs.Runs.Speaking.{speaks}
use Rattle.live_order.proofs.Events.Passing.{passes, still_legal}
use Rattle.live_order.proofs.onward.longer_day_keeps_lines.Goals as goal

pub returns-clause-line : goal.returns-clause-line
returns-clause-line c = line_same

pub returns-clause-reason : goal.returns-clause-reason
returns-clause-reason c = why_same

pub returns-clause-legal : goal.returns-clause-legal
returns-clause-legal c = same_legal

pub returns-clause-speaks : goal.returns-clause-speaks
returns-clause-speaks c = speaks

pub returns-clause-still_legal : goal.returns-clause-still_legal
returns-clause-still_legal c = still_legal

pub returns-clause-passes : goal.returns-clause-passes
returns-clause-passes c = passes

pub returns-clause-sound : goal.returns-clause-sound
returns-clause-sound c = sound_goes_on
