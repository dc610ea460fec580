use Rattle.std.proofs.Common.{◌≡◌, ◌+◌, ◌-◌, ◌≤◌, false, drop}
use Rattle.batch_records.specs.DayPart.{part_len}
use Rattle.batch_records.proofs.part.line_end.Given as goal

abbrev pub invariant-loop-i : goal.invariant-loop-i
invariant-loop-i l = record {
  behind : l.from ≤ l.i;
  rest : part_len false (drop l.from l.input) ≡ (l.i - l.from) + part_len false (drop l.i l.input);
}
