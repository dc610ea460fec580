use Rattle.std.proofs.Common.{◌≡◌, take}
use Rattle.csv.specs.Records.{fields_of}
use Rattle.record_rows.specs.Rows.{kept_row}
use Rattle.record_rows.proofs.row.Row.fill.Given as goal

abbrev pub invariant-loop-i : goal.invariant-loop-i
invariant-loop-i l = l.self ≡ kept_row (take l.i (fields_of l.read))
