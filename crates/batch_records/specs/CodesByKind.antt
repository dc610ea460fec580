-- What is wrong with a record of a known kind, given the records before it.
use Rattle.std.specs.Prelude.{Bool, false}
use Rattle.batch_records.specs.Codes.{has_bad_setup, has_bad_time, is_out_of_place, is_past_limit, is_twice}
use Rattle.batch_records.specs.Kinds.{has_bad_amount, has_bad_date, has_bad_id, has_bad_name, has_bad_number, has_closing_date, has_other_fields, has_other_word}
use Rattle.batch_records.specs.Records.{Fields}
use Rattle.batch_records.specs.declared.day.DayCode.{DayCode}
use Rattle.batch_records.specs.declared.day.DayCode.TheVariants as day_codes
use Rattle.batch_records.specs.declared.kinds.RecordKind.{RecordKind}
use Rattle.batch_records.specs.declared.so_far.SoFar.{SoFar}

-- whether a code applies to a record of this kind after others
abbrev pub applies_to : RecordKind → DayCode → SoFar → Fields → Bool
applies_to kind day_codes.Fields s r = has_other_fields s.version kind r
applies_to kind day_codes.Kind s r = has_other_word s.version kind r
applies_to kind day_codes.Place s r = is_out_of_place kind s
applies_to kind day_codes.Date s r = has_bad_date kind r
applies_to kind day_codes.Closed s r = has_closing_date kind r
applies_to kind day_codes.Name s r = has_bad_name kind r
applies_to kind day_codes.Id s r = has_bad_id kind r
applies_to kind day_codes.Number s r = has_bad_number s.version kind r
applies_to kind day_codes.Amount s r = has_bad_amount s.version kind r
applies_to kind day_codes.Time s r = has_bad_time kind s r
applies_to kind day_codes.Twice s r = is_twice kind s r
applies_to kind day_codes.Setup s r = has_bad_setup kind s r
applies_to kind day_codes.Limit s r = is_past_limit kind s r
applies_to kind day_codes.Cut s r = false
