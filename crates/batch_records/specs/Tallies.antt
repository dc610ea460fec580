-- How a record is judged, and what it adds, on a day that is under way: by a few numbers of the records before it.
use Rattle.std.specs.Prelude.{ℕ, ◌≤◌, ◌<◌, Bool, true, false, ◌+◌, ◌≡◌, ◌&&◌, ◌||◌, not, nat_le, List, [], ◌∷◌, ◌++◌, length, find, Option, Some, None}
use Rattle.cash_amounts.specs.declared.limits.TheConstants.{MAX_ENTRIES, MAX_ENTRIES_OF_DAY, MAX_MESSAGES}
use Rattle.period_calendar.specs.declared.time.TheConstants.{MIDNIGHT}
use Rattle.period_calendar.specs.Times.{time_of_text}
use Rattle.batch_records.specs.DayRecord.{Day}
use Rattle.batch_records.specs.Codes.{is_next_stop, last_entries}
use Rattle.batch_records.specs.Flat.{has_entries, with_entries}
use Rattle.batch_records.specs.Growing.{with_last_entry, with_record, with_stop}
use Rattle.batch_records.specs.Kinds.{by_kind, has_bad_amount, has_bad_id, has_bad_name, has_bad_number, has_other_fields, has_other_word, is_message_kind, kind_of}
use Rattle.batch_records.specs.Made.{answer_from, batch_from, cycle_from, entry_from, last_stop, objection_from, payment_from, stop_from, transfer_from}
use Rattle.batch_records.specs.Records.{Fields, field}
use Rattle.batch_records.specs.Versions.{from_text, info_text, is_no_time, most_entries, most_entries_of_day, most_messages, till_text}
use Rattle.batch_records.specs.declared.day.DayCode.{DayCode}
use Rattle.batch_records.specs.declared.day.DayCode.TheVariants as day_codes
use Rattle.batch_records.specs.declared.kinds.RecordKind.{RecordKind}
use Rattle.batch_records.specs.declared.kinds.RecordKind.TheVariants as record_kinds
use Rattle.batch_records.specs.declared.so_far.SoFar.{SoFar}
use Rattle.batch_records.specs.declared.tally.Piece.{Piece}
use Rattle.batch_records.specs.declared.tally.Piece.TheVariants as pieces
use Rattle.batch_records.specs.declared.tally.Tally.{Tally}

-- the numbers of what records come to
unfoldable pub tally_of : SoFar → Tally
tally_of s = record {
  version = s.version;
  ended = s.ended;
  in_batch = s.in_batch;
  last_stop = last_stop s.stops;
  stops = length s.stops;
  messages = length s.messages;
  entries = s.entries;
  last_entries = last_entries s.messages;
}

-- the numbers are those of a day that keeps its limits, and its stops rise from 1 on
pub record IsSmall (t : Tally) : Type 0 where
  pub messages : t.messages ≤ MAX_MESSAGES
  pub entries : t.entries ≤ MAX_ENTRIES_OF_DAY
  pub last_entries : t.last_entries ≤ MAX_ENTRIES
  pub stops : t.stops ≤ t.last_stop
  pub last_stop : t.last_stop < MIDNIGHT

-- a record of the setup: a system, an account, or what one keeps
abbrev pub is_setup_kind : RecordKind → Bool
is_setup_kind record_kinds.As = true
is_setup_kind record_kinds.Acc = true
is_setup_kind record_kinds.Res = true
is_setup_kind _ = false

-- a record by whose kind, or by the records before it, the setup is over
abbrev pub is_behind_setup : SoFar → Fields → Bool
is_behind_setup s r = by_kind true (λ kind. s.begun || not (is_setup_kind kind)) r

-- a record by whose kind the setup is over: a message, an entry, a stop or END
abbrev pub is_over_kind : RecordKind → Bool
is_over_kind record_kinds.Ver = false
is_over_kind record_kinds.Day = false
is_over_kind kind = not (is_setup_kind kind)

abbrev pub is_setup_over : Fields → Bool
is_setup_over r = by_kind false (λ kind. is_over_kind kind) r

-- ---- its code

-- VER, DAY and what belongs to the setup have no place any more
unfoldable pub is_misplaced : RecordKind → Tally → Bool
is_misplaced record_kinds.Ver t = true
is_misplaced record_kinds.Day t = true
is_misplaced record_kinds.As t = true
is_misplaced record_kinds.Acc t = true
is_misplaced record_kinds.Res t = true
is_misplaced record_kinds.Ent t = t.ended || not t.in_batch
is_misplaced _ t = t.ended

unfoldable pub is_untimely : RecordKind → Tally → Fields → Bool
is_untimely record_kinds.Bat t r = is_no_time (info_text t.version r) || is_no_time (from_text t.version r) || is_no_time (till_text t.version r)
is_untimely record_kinds.Tim t r = not (is_next_stop t.last_stop (time_of_text (field r 1)))
is_untimely _ t r = false

unfoldable pub is_full : RecordKind → Tally → Bool
is_full record_kinds.Ent t = nat_le (most_entries t.version) t.last_entries || nat_le (most_entries_of_day t.version) t.entries
is_full kind t = is_message_kind kind && nat_le (most_messages t.version) t.messages

-- whether a code applies to a record of this kind; the others are those of the setup, and apply to none that has its place
abbrev pub applies_late : RecordKind → DayCode → Tally → Fields → Bool
applies_late kind day_codes.Fields t r = has_other_fields t.version kind r
applies_late kind day_codes.Kind t r = has_other_word t.version kind r
applies_late kind day_codes.Place t r = is_misplaced kind t
applies_late kind day_codes.Name t r = has_bad_name kind r
applies_late kind day_codes.Id t r = has_bad_id kind r
applies_late kind day_codes.Number t r = has_bad_number t.version kind r
applies_late kind day_codes.Amount t r = has_bad_amount t.version kind r
applies_late kind day_codes.Time t r = is_untimely kind t r
applies_late kind day_codes.Limit t r = is_full kind t
applies_late kind _ t r = false

abbrev pub late_codes_in_order : List DayCode
late_codes_in_order =
    day_codes.Fields ∷ day_codes.Kind ∷ day_codes.Place ∷ day_codes.Name ∷ day_codes.Id ∷ day_codes.Number ∷ day_codes.Amount ∷ day_codes.Time ∷ day_codes.Limit ∷ []

abbrev pub late_code_of : RecordKind → Tally → Fields → Option DayCode
late_code_of kind t r = find (λ c. applies_late kind c t r) late_codes_in_order

-- the first code that applies to a record, where one does
unfoldable pub late_code : Tally → Fields → Option DayCode
late_code t r = by_kind (Some day_codes.Kind) (λ kind. late_code_of kind t r) r

-- ---- what it adds

-- what a record of this kind states, by the numbers of the records before it
abbrev pub StatesAs : RecordKind → Tally → Fields → Piece → Type 0
StatesAs record_kinds.Bat t r (pieces.Message m) = with_entries m [] ≡ batch_from t.version t.stops [] r
StatesAs record_kinds.Pay t r (pieces.Message m) = with_entries m [] ≡ payment_from t.stops r
StatesAs record_kinds.Liq t r (pieces.Message m) = with_entries m [] ≡ transfer_from t.stops r
StatesAs record_kinds.Obj t r (pieces.Message m) = with_entries m [] ≡ objection_from t.stops r
StatesAs record_kinds.Cnf t r (pieces.Message m) = with_entries m [] ≡ answer_from t.stops r
StatesAs record_kinds.Cyc t r (pieces.Message m) = with_entries m [] ≡ cycle_from t.stops r
StatesAs record_kinds.Ent t r (pieces.Entry e) = e ≡ entry_from r
StatesAs record_kinds.Tim t r (pieces.Stop time) = time ≡ stop_from r
StatesAs record_kinds.End t r pieces.End = Unit {0}
StatesAs _ t r piece = ⊥

abbrev pub StatesBy : Option RecordKind → Tally → Fields → Piece → Type 0
StatesBy None t r piece = ⊥
StatesBy (Some kind) t r piece = StatesAs kind t r piece

abbrev pub States : Tally → Fields → Piece → Type 0
States t r piece = StatesBy (kind_of r) t r piece

-- the numbers after it
abbrev pub tally_after : Piece → Tally → Tally
tally_after (pieces.Message m) t = record t { messages = t.messages + 1; last_entries = 0; in_batch = has_entries m.body }
tally_after (pieces.Entry e) t = record t { entries = t.entries + 1; last_entries = t.last_entries + 1 }
tally_after (pieces.Stop time) t = record t { stops = t.stops + 1; last_stop = time; in_batch = false }
tally_after pieces.End t = record t { ended = true; in_batch = false }

-- the day after it
abbrev pub day_after : Piece → Day → Day
day_after (pieces.Message m) day = with_record m day
day_after (pieces.Entry e) day = with_last_entry e day
day_after (pieces.Stop time) day = with_stop time day
day_after pieces.End day = day
