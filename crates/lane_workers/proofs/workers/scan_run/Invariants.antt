use Rattle.std.proofs.Common.{◌≡◌, ℕ, ◌<◌, ◌≤◌, get_or, length}
use Rattle.journal_pass.specs.Known.{with_lines}
use Rattle.machine.specs.Records.Messages.{entries}
use Rattle.machine.specs.Stages.Pending.{item}
use Rattle.lane_workers.specs.Seen.{GoesOn, HadChance}
use Rattle.lane_workers.proofs.workers.scan_run.Given as goal

-- the items of the messages from the place on, so far, had their chance
abbrev pub invariant-loop-at : goal.invariant-loop-at
invariant-loop-at g l = record {
  pass : l.pass ≡ with_lines l.initial.pass l.pass.lines;
  seen : GoesOn g.H.HallName.day l.initial.pass.lines l.pass.lines;
  past : (m : ℕ) → l.place ≤ m → m < l.at → (k : ℕ) → k ≤ length (entries g.H.HallName.day (get_or l.stint m 0)) → HadChance g.H.HallName.day l.initial.pass.lines l.pass.lines (item (get_or l.stint m 0) k);
}
