use Rattle.std.proofs.Common.{◌≡◌, ◌+◌, ◌-◌, ◌≤◌, true, drop, length}
use Rattle.batch_records.specs.DayPart.{part_len}
use Rattle.batch_records.proofs.part.day_len.Given as goal

abbrev pub invariant-loop-at : goal.invariant-loop-at
invariant-loop-at l = record {
  within : l.at ≤ length l.input;
  rest : l.at + part_len true (drop l.at l.input) ≡ part_len true l.input;
}

abbrev pub decreases-loop-at : goal.decreases-loop-at
decreases-loop-at l = length l.input - l.at
