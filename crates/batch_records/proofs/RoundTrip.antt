-- What is written of a day is read as that day.
use Rattle.std.proofs.Common.{◌≡◌, ℕ, List, [], ◌∷◌, true, ◌++◌, false, length, take, refl, ap, sym, arith, append_assoc, ◌∙◌}
use Rattle.std.specs.Prelude.{Ok, if◌then◌else◌}
use Rattle.std.specs.List.{flat_map, list_any}
use Rattle.outside_io.specs.TextLine.{text_line}
use Rattle.std.proofs.lemmas.List.{take_all}
use Rattle.std.proofs.lemmas.List.Folds.{list_any-append}
use Rattle.csv.specs.Reading.{strip_bom}
use Rattle.batch_records.specs.DayPart.{day_len}
use Rattle.batch_records.specs.Days.{bad_records, day_of_bytes, faults_of}
use Rattle.batch_records.specs.DayTexts.{day_record, day_text, end_record, inner_records, version_record, version_records, written_records}
use Rattle.batch_records.specs.Kinds.{kind_named}
use Rattle.batch_records.specs.Made.{is_end}
use Rattle.batch_records.specs.Meets.{MeetsRules}
use Rattle.batch_records.specs.Records.{Fields, day_records, records_of}
use Rattle.batch_records.specs.Versions.{begins_with_ver}
use Rattle.batch_records.specs.DayRecord.{Day}
use Rattle.batch_records.proofs.BoolFacts.{or_true}
use Rattle.batch_records.proofs.KeptDay.{IsKept, lines_other}
use Rattle.batch_records.proofs.LineFacts.{IsOther, IsPlainRecord, lines_read, part_whole}
use Rattle.batch_records.proofs.ListFacts.{AllIn, all_in_append}
use Rattle.batch_records.proofs.MadeBack.{day_back}
use Rattle.batch_records.proofs.MeetsFacts.{meets_kept}

plain_of : (rows : List Fields) → AllIn IsOther rows → AllIn IsPlainRecord rows
plain_of [] all = tt
plain_of (r ∷ rows) all = (all.0.plain, plain_of rows all.1)

-- all records but END
abbrev front_rows : Day → List Fields
front_rows day = version_records day.version ++ day_record day.date ∷ inner_records day

whole_rows : (day : Day) → written_records day ≡ front_rows day ++ end_record ∷ []
unfolding written_records
whole_rows day = sym (append_assoc (version_records day.version) (day_record day.date ∷ inner_records day) (end_record ∷ []))

plain_lines : (day : Day) → IsKept day → AllIn IsPlainRecord (written_records day)
plain_lines day k =
    let end : IsPlainRecord end_record = record { word = refl; plain = refl } in
    rw (whole_rows day) (all_in_append IsPlainRecord (front_rows day) (end_record ∷ []) (plain_of (front_rows day) (lines_other day k)) (end, tt))

no_mark_in_front : (day : Day) → strip_bom (day_text day) ≡ day_text day
unfolding day_text written_records version_records strip_bom
no_mark_in_front day =
    elim (begins_with_ver day.version) as (λ b. strip_bom (flat_map text_line ((if b then version_record day.version ∷ [] else []) ++ day_record day.date ∷ (inner_records day ++ end_record ∷ [])))
    ≡ flat_map text_line ((if b then version_record day.version ∷ [] else []) ++ day_record day.date ∷ (inner_records day ++ end_record ∷ []))) [ true ↦ refl | false ↦ refl ]

records_back : (day : Day) → IsKept day → records_of (day_text day) ≡ written_records day
unfolding day_text
records_back day k = rw (no_mark_in_front day) (lines_read (written_records day) (plain_lines day k))

part_back : (day : Day) → IsKept day → day_len (day_text day) ≡ length (day_text day)
unfolding day_text
part_back day k = rw (whole_rows day) (part_whole (front_rows day) (lines_other day k))

pub day_records_back : (day : Day) → IsKept day → day_records (day_text day) ≡ written_records day
day_records_back day k =
    ap (λ (n : ℕ). records_of (take n (day_text day))) (part_back day k)
    ∙ ap records_of (take_all (length (day_text day)) (day_text day) (omega arith))
    ∙ records_back day k

pub has_end : (day : Day) → list_any is_end (written_records day) ≡ true
unfolding kind_named
has_end day = ap (list_any is_end) (whole_rows day) ∙ list_any-append is_end (front_rows day) (end_record ∷ []) ∙ or_true (list_any is_end (front_rows day))

pub no_fault : (day : Day) → bad_records (written_records day) ≡ [] → faults_of (written_records day) ≡ []
no_fault day fine = rw (fine, has_end day) refl

pub read_back : (day : Day) → MeetsRules day → day_of_bytes (day_text day) ≡ Ok (day, length (day_text day))
read_back day m =
    let k = meets_kept day m in
    rw (day_records_back day k, no_fault day m.fine, day_back day k, part_back day k) refl
