use Rattle.std.proofs.Common.{◌-◌, ◌≤◌, length, take, drop}
use Rattle.outside_io.specs.Pieces.{HasPut}
use Rattle.outside_io.proofs.gathering.put_from.Given as goal

abbrev pub invariant-loop-from : goal.invariant-loop-from
invariant-loop-from g l = record {
  onward : l.initial.from ≤ l.from;
  inside : l.from ≤ length l.held;
  put : HasPut (g.S.Sink.state l.initial.sink) (g.S.Sink.state l.sink) (take (l.from - l.initial.from) (drop l.initial.from l.held));
}

abbrev pub decreases-loop-from : goal.decreases-loop-from
decreases-loop-from g l = length l.held - l.from
