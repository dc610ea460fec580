use Rattle.std.proofs.Common.{◌≡◌, ℕ, ◌-◌, ◌<◌, ◌≤◌}
use Rattle.journal_pass.specs.Known.{with_lines}
use Rattle.machine.specs.Stages.Pending.{item}
use Rattle.lane_workers.specs.Seen.{GoesOn, HadChance}
use Rattle.lane_workers.proofs.workers.scan_message.Given as goal

-- the items before this entry had their chance
abbrev pub invariant-items : goal.invariant-items
invariant-items g l = record {
  pass : l.pass ≡ with_lines l.initial.pass l.pass.lines;
  seen : GoesOn g.H.HallName.day l.initial.pass.lines l.pass.lines;
  within : l.entry ≤ l.end;
  past : (k : ℕ) → k < l.entry → HadChance g.H.HallName.day l.initial.pass.lines l.pass.lines (item l.n k);
}

abbrev pub decreases-items : goal.decreases-items
decreases-items g l = l.end - l.entry
