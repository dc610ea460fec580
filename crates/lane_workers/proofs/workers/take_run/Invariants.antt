use Rattle.std.proofs.Common.{◌≡◌, ℕ, ◌<◌, IsSome, get_or}
use Rattle.journal_pass.specs.Known.{with_lines}
use Rattle.machine.specs.Telling.History.{taken}
use Rattle.lane_workers.specs.Seen.{GoesOn}
use Rattle.lane_workers.proofs.workers.take_run.Given as goal

-- the messages of the stint so far are taken
abbrev pub invariant-loop-i : goal.invariant-loop-i
invariant-loop-i g l = record {
  pass : l.pass ≡ with_lines l.initial.pass l.pass.lines;
  seen : GoesOn g.H.HallName.day l.initial.pass.lines l.pass.lines;
  past : (k : ℕ) → k < l.i → IsSome (taken l.pass.lines (get_or l.stint k 0));
}
