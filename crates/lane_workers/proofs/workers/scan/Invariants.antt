use Rattle.std.proofs.Common.{◌≡◌, ◌-◌, ◌≤◌}
use Rattle.journal_pass.specs.Known.{with_lines}
use Rattle.lane_workers.specs.Seen.{GoesOn, HadChances}
use Rattle.lane_workers.proofs.workers.scan.Given as goal

-- the items of the messages before this place had their chance
abbrev pub invariant-runs : goal.invariant-runs
invariant-runs g l = record {
  pass : l.pass ≡ with_lines l.initial.pass l.pass.lines;
  seen : GoesOn g.H.HallName.day l.initial.pass.lines l.pass.lines;
  within : l.place ≤ l.count;
  past : HadChances g.H.HallName.day l.lanes.workers l.round l.initial.pass.lane 0 l.place l.initial.pass.lines l.pass.lines;
}

abbrev pub decreases-runs : goal.decreases-runs
decreases-runs g l = l.count - l.place
