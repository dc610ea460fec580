use Rattle.std.proofs.Common.{◌≤◌, ◌-◌, length}
use Rattle.std.specs.Prelude.{filter}
use Rattle.std.specs.List.{flat_map, range_with_len}
use Rattle.outside_io.specs.Pieces.{HasPut}
use Rattle.number_set.specs.Members.{has}
use Rattle.status_messages.specs.LineTexts.{information_to}
use Rattle.status_messages.proofs.told.put_information.Given as goal

abbrev pub invariant-loop-a : goal.invariant-loop-a
invariant-loop-a g l = record {
  within : l.at ≤ length l.banks;
  put : HasPut (g.S.Sink.state l.initial.sink) (g.S.Sink.state l.sink) (flat_map (information_to l.day l.place l.n) (filter (has l.banks) (range_with_len 0 l.at)));
}

abbrev pub decreases-loop-a : goal.decreases-loop-a
decreases-loop-a g l = length l.banks - l.at
