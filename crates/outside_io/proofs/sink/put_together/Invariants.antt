use Rattle.std.proofs.Common.{◌≡◌, ◌≤◌, length, take}
use Rattle.std.specs.List.{flat_map}
use Rattle.outside_io.proofs.TextLineLemmas.{marked}
use Rattle.outside_io.proofs.sink.put_together.Given as goal

abbrev pub invariant-loop-field : goal.invariant-loop-field
invariant-loop-field l = record {
  within : l.used ≤ length l.room;
  fields : take l.used l.room ≡ flat_map (λ field. marked field.now) (take l.field-index l.fields);
}
