-- The first code of a record, by its kind.
use Rattle.std.proofs.Common.{◌≡◌, Some, None, find, refl}
use Rattle.batch_records.specs.Codes.{codes_in_order, first_code}
use Rattle.batch_records.specs.CodesByKind.{applies_to}
use Rattle.batch_records.specs.Kinds.{kind_of}
use Rattle.batch_records.specs.Records.{Fields}
use Rattle.batch_records.specs.declared.day.DayCode.TheVariants as day_codes
use Rattle.batch_records.specs.declared.kinds.RecordKind.{RecordKind}
use Rattle.batch_records.specs.declared.so_far.SoFar.{SoFar}

pub code_without_kind : (s : SoFar) (r : Fields) → kind_of r ≡ None → first_code s r ≡ Some day_codes.Kind
unfolding first_code
code_without_kind s r is = rw is refl

pub code_of_kind : (kind : RecordKind) (s : SoFar) (r : Fields) → kind_of r ≡ Some kind
    → first_code s r ≡ find (λ code. applies_to kind code s r) codes_in_order
unfolding first_code
code_of_kind kind s r is = rw is refl
