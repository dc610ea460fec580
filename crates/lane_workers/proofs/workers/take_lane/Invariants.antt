use Rattle.std.proofs.Common.{◌≡◌, ◌-◌, ◌≤◌}
use Rattle.journal_pass.specs.Known.{with_lines}
use Rattle.lane_workers.specs.Seen.{AreFirstTaken, GoesOn}
use Rattle.lane_workers.proofs.workers.take_lane.Given as goal

-- the messages of the stint before this place are taken
abbrev pub invariant-runs : goal.invariant-runs
invariant-runs g l = record {
  pass : l.pass ≡ with_lines l.initial.pass l.pass.lines;
  seen : GoesOn g.H.HallName.day l.initial.pass.lines l.pass.lines;
  within : l.place ≤ l.count;
  past : AreFirstTaken g.H.HallName.day l.lanes.workers l.round l.initial.pass.lane l.place l.pass.lines;
}

abbrev pub decreases-runs : goal.decreases-runs
decreases-runs g l = l.count - l.place
