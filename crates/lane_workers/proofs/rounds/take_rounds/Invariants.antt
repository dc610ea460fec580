use Rattle.std.proofs.Common.{◌≡◌, ℕ, ◌<◌, ◌≤◌}
use Rattle.journal_pass.specs.Known.{with_lines}
use Rattle.lane_workers.specs.Seen.{AreTakenBelow, GoesOn, HadTurns}
use Rattle.lane_workers.proofs.rounds.take_rounds.Given as goal

-- the messages of the rounds below this one are taken, and had their turns
abbrev pub invariant-loop-round : goal.invariant-loop-round
invariant-loop-round g l = record {
  pass : l.pass ≡ with_lines l.fn.pass l.pass.lines;
  seen : GoesOn g.H.HallName.day l.fn.pass.lines l.pass.lines;
  below : AreTakenBelow g.H.HallName.day l.round l.pass.lines;
  turns : (r : ℕ) → l.next ≤ r → r < l.round → HadTurns g.H.HallName.day l.lanes.workers r 0 l.lanes.workers l.fn.pass.lines l.pass.lines;
}
