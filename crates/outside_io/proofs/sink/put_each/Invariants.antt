use Rattle.std.proofs.Common.{◌≡◌, map, take}
use Rattle.outside_io.specs.Pieces.{HasPut}
use Rattle.outside_io.proofs.TextLineLemmas.{joined, mark_before}
use Rattle.outside_io.proofs.sink.put_each.Given as goal

abbrev pub invariant-loop-field : goal.invariant-loop-field
invariant-loop-field g l = record {
  put : HasPut (g.S.Sink.state l.initial.sink) (g.S.Sink.state l.sink) (joined (map (λ field. field.now) (take l.field-index l.fields)));
  mark : l.mark ≡ mark_before l.field-index;
}
