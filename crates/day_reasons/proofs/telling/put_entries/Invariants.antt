use Rattle.std.proofs.Common.{◌≡◌, length, take}
use Rattle.std.specs.List.{flat_map, range_with_len}
use Rattle.outside_io.specs.Pieces.{HasPut}
use Rattle.machine.specs.Records.Messages.{entries}
use Rattle.day_reasons.specs.Desks.{clear}
use Rattle.day_reasons.specs.Told.{item_text}
use Rattle.day_reasons.proofs.telling.put_entries.Given as goal

abbrev pub invariant-loop-before : goal.invariant-loop-before
invariant-loop-before g l = record {
  put : HasPut (g.S.Sink.state l.initial.sink) (g.S.Sink.state l.sink) (flat_map (item_text (g.D.Desk.day l.desk) (g.D.Desk.past l.desk) l.n) (take l.before (range_with_len 1 (length (entries (g.D.Desk.day l.desk) l.n)))));
  moves : l.moves ≡ clear;
}
