-- What a record that has no code is.
use Rattle.std.proofs.Common.{◌≡◌, ◌+◌, ◌<◌, ◌≤◌, ℕ, List, [], ◌∷◌, Option, Some, None, Bool, true, false, not, cond, refl}
use Rattle.std.specs.Prelude.{Result, Ok, Err, find, is_none, is_some, unwrap_or, length, nat_le, nat_lt, ◌||◌}
use Rattle.std.specs.List.{list_any}
use Rattle.std.specs.Result.{result_ok}
use Rattle.cash_amounts.specs.Names.{is_id, is_name}
use Rattle.cash_amounts.specs.declared.cents.TheConstants.{MAX_CENTS}
use Rattle.cash_amounts.specs.Tests.{some_passes}
use Rattle.period_calendar.specs.Calendar.{CivilDay}
use Rattle.period_calendar.specs.Dates.{date_of_text}
use Rattle.period_calendar.specs.declared.date.DateFault.{DateFault}
use Rattle.period_calendar.specs.declared.date.DateFault.TheVariants as date_faults
use Rattle.period_calendar.proofs.DateLemmas.{date_text_of}
use Rattle.batch_records.specs.Amounts.{amount_in, cents_of}
use Rattle.period_calendar.specs.Times.{time_of_text}
use Rattle.batch_records.specs.Codes.{applies, codes_in_order, first_code, has_bad_setup, has_bad_time, is_dca_named, is_kept_already, is_next_stop, is_out_of_place, is_past_limit, is_twice, last_entries}
use Rattle.batch_records.specs.Kinds.{has_bad_amount, has_bad_date, has_bad_id, has_bad_name, has_bad_number, has_closing_date, has_other_fields, has_other_word, id_fields, is_closing_date, is_no_date, is_paid, kind_of, name_fields}
use Rattle.batch_records.specs.Made.{date_in, last_stop, stop_from}
use Rattle.batch_records.specs.Records.{Fields, field}
use Rattle.batch_records.specs.Sound.{is_amount, is_open_date}
use Rattle.batch_records.specs.Versions.{begins_with_ver, has_labels, most_entries, most_entries_of_day, most_messages, sum_field}
use Rattle.batch_records.specs.Step.{IsAnswer, IsBatch, IsCycle, IsEntry, IsObjection, IsPayment, IsReserve, IsTransfer}
use Rattle.batch_records.specs.declared.kinds.RecordKind.{RecordKind}
use Rattle.batch_records.specs.declared.kinds.RecordKind.TheVariants as record_kinds
use Rattle.batch_records.specs.declared.so_far.SoFar.{SoFar}
use Rattle.batch_records.proofs.BoolFacts.{and_both, le_failed, lt_failed, lt_meant, not_false, or_neither}

-- no element of a list passes
abbrev pub AllFail : {X : Type 0} → (X → Bool) → List X → Type 0
AllFail p [] = Unit {0}
AllFail p (x ∷ xs) = (p x ≡ false) × AllFail p xs

pub find_none : {X : Type 0} (p : X → Bool) (xs : List X) → find p xs ≡ None → AllFail p xs
find_none p [] e = tt
find_none {X} p (x ∷ xs) e =
    (elim (p x) as (λ b. cond b (Some x) (find p xs) ≡ None → (b ≡ false) × AllFail p xs) [
      | true ↦ λ h. cc h
      | false ↦ λ h. (refl, find_none p xs h)
    ]) e

pub fine_parts : (s : SoFar) (r : Fields) → find (λ c. applies c s r) codes_in_order ≡ None → AllFail (λ c. applies c s r) codes_in_order
fine_parts s r e = find_none (λ c. applies c s r) codes_in_order e

-- a record of this kind has none of these faults
pub record IsFine (kind : RecordKind) (s : SoFar) (r : Fields) : Type 0 where
  pub words : has_other_word s.version kind r ≡ false
  pub place : is_out_of_place kind s ≡ false
  pub dates : has_bad_date kind r ≡ false
  pub closed : has_closing_date kind r ≡ false
  pub names : has_bad_name kind r ≡ false
  pub ids : has_bad_id kind r ≡ false
  pub numbers : has_bad_number s.version kind r ≡ false
  pub amounts : has_bad_amount s.version kind r ≡ false
  pub times : has_bad_time kind s r ≡ false
  pub twice : is_twice kind s r ≡ false
  pub setup : has_bad_setup kind s r ≡ false
  pub limit : is_past_limit kind s r ≡ false

pub fine : (kind : RecordKind) (s : SoFar) (r : Fields) → first_code s r ≡ None → kind_of r ≡ Some kind → IsFine kind s r
unfolding first_code
fine kind s r e is =
    let all = find_none (λ c. applies c s r) codes_in_order e in
    record {
      words = rw is at all.1.0;
      place = rw is at all.1.1.0;
      dates = rw is at all.1.1.1.0;
      closed = rw is at all.1.1.1.1.0;
      names = rw is at all.1.1.1.1.1.0;
      ids = rw is at all.1.1.1.1.1.1.0;
      numbers = rw is at all.1.1.1.1.1.1.1.0;
      amounts = rw is at all.1.1.1.1.1.1.1.1.0;
      times = rw is at all.1.1.1.1.1.1.1.1.1.0;
      twice = rw is at all.1.1.1.1.1.1.1.1.1.1.0;
      setup = rw is at all.1.1.1.1.1.1.1.1.1.1.1.0;
      limit = rw is at all.1.1.1.1.1.1.1.1.1.1.1.1.0;
    }

-- and it has the fields of its kind
pub fine_form : (kind : RecordKind) (s : SoFar) (r : Fields) → first_code s r ≡ None → kind_of r ≡ Some kind → has_other_fields s.version kind r ≡ false
unfolding first_code
fine_form kind s r e is = rw is at (find_none (λ c. applies c s r) codes_in_order e).0

-- a record without a code has a kind
pub kind_known : (s : SoFar) (r : Fields) → first_code s r ≡ None → (kind : RecordKind) × (kind_of r ≡ Some kind)
unfolding first_code
kind_known s r e =
    (elim (kind_of r) as (λ o. find (λ c. applies c s r) codes_in_order ≡ None → kind_of r ≡ o → (kind : RecordKind) × (o ≡ Some kind)) [
      | None ↦ λ h is. let bad = (fine_parts s r h).1.0 in cc (rw is at bad)
      | Some kind ↦ λ h is. (kind, refl)
    ]) e refl

-- ---- texts that are names or identifications

abbrev pub AllHold : {X : Type 0} → (X → Bool) → List X → Type 0
AllHold p [] = Unit {0}
AllHold p (x ∷ xs) = (p x ≡ true) × AllHold p xs

pub all_hold : {X : Type 0} (p : X → Bool) (xs : List X) → list_any (λ x. not (p x)) xs ≡ false → AllHold p xs
all_hold p [] e = tt
all_hold p (x ∷ xs) e =
    let both = or_neither (not (p x)) (list_any (λ x. not (p x)) xs) e in
    (not_false (p x) both.0, all_hold p xs both.1)

pub names_hold : (kind : RecordKind) (s : SoFar) (r : Fields) → IsFine kind s r → AllHold is_name (name_fields kind r)
unfolding has_bad_name
names_hold kind s r f = all_hold is_name (name_fields kind r) f.names

pub ids_hold : (kind : RecordKind) (s : SoFar) (r : Fields) → IsFine kind s r → AllHold is_id (id_fields kind r)
unfolding has_bad_id
ids_hold kind s r f = all_hold is_id (id_fields kind r) f.ids

pub is_known : {X : Type 0} (o : Option X) → is_none o ≡ false → is_some o ≡ true
is_known None e = cc e
is_known (Some x) e = refl

-- ---- payments

paid_known : (o : Option ℕ) → is_paid o ≡ true → is_some o ≡ true
paid_known None e = cc e
paid_known (Some n) e = refl

paid_amount : (o : Option ℕ) → is_paid o ≡ true → is_amount (unwrap_or o 0) ≡ true
paid_amount None e = cc e
paid_amount (Some n) e = e

paid : (s : SoFar) (r : Fields) → IsFine record_kinds.Pay s r → is_paid (cents_of (field r 6)) ≡ true
unfolding has_bad_amount
paid s r f = not_false (is_paid (cents_of (field r 6))) f.amounts

pub payment_texts : (s : SoFar) (r : Fields) → IsFine record_kinds.Pay s r → IsPayment r
payment_texts s r f =
    let names = names_hold record_kinds.Pay s r f in
    (names.0, (ids_hold record_kinds.Pay s r f).0, names.1.0, names.1.1.0, paid_known (cents_of (field r 6)) (paid s r f))

pub payment_amount : (s : SoFar) (r : Fields) → IsFine record_kinds.Pay s r → is_amount (amount_in (field r 6)) ≡ true
payment_amount s r f = paid_amount (cents_of (field r 6)) (paid s r f)

pub payment_count : (s : SoFar) (r : Fields) → IsFine record_kinds.Pay s r → length s.messages < most_messages s.version
unfolding is_past_limit
payment_count s r f = le_failed (most_messages s.version) (length s.messages) f.limit

-- ---- transfers

transferred : (s : SoFar) (r : Fields) → IsFine record_kinds.Liq s r → is_paid (cents_of (field r 5)) ≡ true
unfolding has_bad_amount
transferred s r f = not_false (is_paid (cents_of (field r 5))) f.amounts

pub transfer_texts : (s : SoFar) (r : Fields) → IsFine record_kinds.Liq s r → IsTransfer r
transfer_texts s r f =
    let names = names_hold record_kinds.Liq s r f in
    (names.0, (ids_hold record_kinds.Liq s r f).0, names.1.0, names.1.1.0, paid_known (cents_of (field r 5)) (transferred s r f))

pub transfer_amount : (s : SoFar) (r : Fields) → IsFine record_kinds.Liq s r → is_amount (amount_in (field r 5)) ≡ true
transfer_amount s r f = paid_amount (cents_of (field r 5)) (transferred s r f)

pub transfer_count : (s : SoFar) (r : Fields) → IsFine record_kinds.Liq s r → length s.messages < most_messages s.version
unfolding is_past_limit
transfer_count s r f = le_failed (most_messages s.version) (length s.messages) f.limit

-- ---- what accounts keep

pub reserve_amounts : (s : SoFar) (r : Fields) → IsFine record_kinds.Res s r → IsReserve r
unfolding has_bad_amount
reserve_amounts s r f =
    let both = or_neither (is_none (cents_of (field r 2))) (is_none (cents_of (field r 3))) f.amounts in
    (is_known (cents_of (field r 2)) both.0, is_known (cents_of (field r 3)) both.1)

pub reserve_small : (s : SoFar) (r : Fields) → IsFine record_kinds.Res s r → amount_in (field r 2) + amount_in (field r 3) ≤ MAX_CENTS
unfolding is_past_limit
reserve_small s r f = lt_failed MAX_CENTS (amount_in (field r 2) + amount_in (field r 3)) f.limit

-- no account of this name keeps amounts already, and it is a dedicated cash account's
pub reserve_new : (s : SoFar) (r : Fields) → IsFine record_kinds.Res s r → is_kept_already s (field r 1) ≡ false
unfolding is_twice
reserve_new s r f = f.twice

pub reserve_of_dca : (s : SoFar) (r : Fields) → IsFine record_kinds.Res s r → is_dca_named s.accounts (field r 1) ≡ true
unfolding has_bad_setup
reserve_of_dca s r f = not_false (is_dca_named s.accounts (field r 1)) f.setup

-- RES stands in a day of version 2 alone
pub reserve_labels : (s : SoFar) (r : Fields) → IsFine record_kinds.Res s r → has_labels s.version ≡ true
unfolding has_other_word
reserve_labels s r f = not_false (has_labels s.version) f.words

-- ---- batches, entries, objections, answers and cycles

pub batch_texts : (s : SoFar) (r : Fields) → IsFine record_kinds.Bat s r → IsBatch s.version r
unfolding has_bad_amount
batch_texts s r f = ((names_hold record_kinds.Bat s r f).0, (ids_hold record_kinds.Bat s r f).0, is_known (cents_of (sum_field s.version r)) f.amounts)

pub batch_count : (s : SoFar) (r : Fields) → IsFine record_kinds.Bat s r → length s.messages < most_messages s.version
unfolding is_past_limit
batch_count s r f = le_failed (most_messages s.version) (length s.messages) f.limit

moved : (s : SoFar) (r : Fields) → IsFine record_kinds.Ent s r → is_paid (cents_of (field r 3)) ≡ true
unfolding has_bad_amount
moved s r f = not_false (is_paid (cents_of (field r 3))) f.amounts

pub entry_texts : (s : SoFar) (r : Fields) → IsFine record_kinds.Ent s r → IsEntry r
entry_texts s r f = let names = names_hold record_kinds.Ent s r f in (names.0, names.1.0, paid_known (cents_of (field r 3)) (moved s r f))

pub entry_amount : (s : SoFar) (r : Fields) → IsFine record_kinds.Ent s r → is_amount (amount_in (field r 3)) ≡ true
entry_amount s r f = paid_amount (cents_of (field r 3)) (moved s r f)

entry_limits : (s : SoFar) (r : Fields) → IsFine record_kinds.Ent s r → (last_entries s.messages < most_entries s.version) × (s.entries < most_entries_of_day s.version)
unfolding is_past_limit
entry_limits s r f =
    let limits = or_neither (nat_le (most_entries s.version) (last_entries s.messages)) (nat_le (most_entries_of_day s.version) s.entries) f.limit in
    (le_failed (most_entries s.version) (last_entries s.messages) limits.0, le_failed (most_entries_of_day s.version) s.entries limits.1)

pub entry_few : (s : SoFar) (r : Fields) → IsFine record_kinds.Ent s r → last_entries s.messages < most_entries s.version
entry_few s r f = (entry_limits s r f).0

pub entry_count : (s : SoFar) (r : Fields) → IsFine record_kinds.Ent s r → s.entries < most_entries_of_day s.version
entry_count s r f = (entry_limits s r f).1

pub objection_texts : (s : SoFar) (r : Fields) → IsFine record_kinds.Obj s r → IsObjection r
objection_texts s r f =
    let names = names_hold record_kinds.Obj s r f in
    let ids = ids_hold record_kinds.Obj s r f in
    (names.0, ids.0, names.1.0, ids.1.0)

pub objection_count : (s : SoFar) (r : Fields) → IsFine record_kinds.Obj s r → length s.messages < most_messages s.version
unfolding is_past_limit
objection_count s r f = le_failed (most_messages s.version) (length s.messages) f.limit

pub answer_texts : (s : SoFar) (r : Fields) → IsFine record_kinds.Cnf s r → IsAnswer r
answer_texts s r f = let ids = ids_hold record_kinds.Cnf s r f in ((names_hold record_kinds.Cnf s r f).0, ids.0, ids.1.0)

pub answer_count : (s : SoFar) (r : Fields) → IsFine record_kinds.Cnf s r → length s.messages < most_messages s.version
unfolding is_past_limit
answer_count s r f = le_failed (most_messages s.version) (length s.messages) f.limit

pub cycle_texts : (s : SoFar) (r : Fields) → IsFine record_kinds.Cyc s r → IsCycle r
cycle_texts s r f = ((names_hold record_kinds.Cyc s r f).0, (ids_hold record_kinds.Cyc s r f).0)

pub cycle_count : (s : SoFar) (r : Fields) → IsFine record_kinds.Cyc s r → length s.messages < most_messages s.version
unfolding is_past_limit
cycle_count s r f = le_failed (most_messages s.version) (length s.messages) f.limit

-- ---- dates and stops

open_date : (text : List ℕ) (read : Result CivilDay DateFault) → date_of_text text ≡ read → is_no_date read ≡ false → is_closing_date read ≡ false → some_passes is_open_date (result_ok read) ≡ true
open_date text (Ok date) is no_date closed = (date_text_of text date is).1
open_date text (Err date_faults.Closed) is no_date closed = cc closed
open_date text (Err date_faults.Form) is no_date closed = cc no_date
open_date text (Err date_faults.NoSuchDay) is no_date closed = cc no_date
open_date text (Err date_faults.Years) is no_date closed = cc no_date

pub day_date : (s : SoFar) (r : Fields) → IsFine record_kinds.Day s r → some_passes is_open_date (date_in r) ≡ true
unfolding has_bad_date has_closing_date
day_date s r f = open_date (field r 1) (date_of_text (field r 1)) refl f.dates f.closed

next_stop : (last : ℕ) (o : Option ℕ) → is_next_stop last o ≡ true → (is_some o ≡ true) × (last < unwrap_or o 0) × (unwrap_or o 0 < 86400)
next_stop last None e = cc e
next_stop last (Some t) e = let ends = and_both (nat_lt last t) (nat_lt t 86400) e in (refl, lt_meant last t ends.0, lt_meant t 86400 ends.1)

stop_is_next : (s : SoFar) (r : Fields) → IsFine record_kinds.Tim s r → is_next_stop (last_stop s.stops) (time_of_text (field r 1)) ≡ true
unfolding has_bad_time
stop_is_next s r f = not_false (is_next_stop (last_stop s.stops) (time_of_text (field r 1))) f.times

pub stop_text : (s : SoFar) (r : Fields) → IsFine record_kinds.Tim s r → is_some (time_of_text (field r 1)) ≡ true
stop_text s r f = (next_stop (last_stop s.stops) (time_of_text (field r 1)) (stop_is_next s r f)).0

pub stop_ends : (s : SoFar) (r : Fields) → IsFine record_kinds.Tim s r → (last_stop s.stops < stop_from r) × (stop_from r < 86400)
stop_ends s r f = let next = next_stop (last_stop s.stops) (time_of_text (field r 1)) (stop_is_next s r f) in (next.1, next.2)

-- ---- places

place_first : (started ended : Bool) → (not started || ended) ≡ false → (started ≡ true) × (ended ≡ false)
place_first true false e = (refl, refl)
place_first true true e = cc e
place_first false b e = cc e

-- whether there was DAY before a record of this kind
abbrev pub StartedAs : RecordKind → Bool → Type 0
StartedAs record_kinds.Ver started = started ≡ false
StartedAs record_kinds.Day started = started ≡ false
StartedAs _ started = started ≡ true

pub started_as : (kind : RecordKind) (s : SoFar) (r : Fields) → IsFine kind s r → StartedAs kind s.started
unfolding is_out_of_place
started_as record_kinds.Ver s r f = (or_neither s.started (begins_with_ver s.version) f.place).0
started_as record_kinds.Day s r f = f.place
started_as record_kinds.As s r f = (place_first s.started s.ended (or_neither (not s.started || s.ended) s.begun f.place).0).0
started_as record_kinds.Acc s r f = (place_first s.started s.ended (or_neither (not s.started || s.ended) s.begun f.place).0).0
started_as record_kinds.Res s r f = (place_first s.started s.ended (or_neither (not s.started || s.ended) s.begun f.place).0).0
started_as record_kinds.Bat s r f = (place_first s.started s.ended f.place).0
started_as record_kinds.Ent s r f = (place_first s.started s.ended (or_neither (not s.started || s.ended) (not s.in_batch) f.place).0).0
started_as record_kinds.Pay s r f = (place_first s.started s.ended f.place).0
started_as record_kinds.Liq s r f = (place_first s.started s.ended f.place).0
started_as record_kinds.Obj s r f = (place_first s.started s.ended f.place).0
started_as record_kinds.Cnf s r f = (place_first s.started s.ended f.place).0
started_as record_kinds.Cyc s r f = (place_first s.started s.ended f.place).0
started_as record_kinds.Tim s r f = (place_first s.started s.ended f.place).0
started_as record_kinds.End s r f = (place_first s.started s.ended f.place).0

pub end_place : (s : SoFar) (r : Fields) → IsFine record_kinds.End s r → s.ended ≡ false
unfolding is_out_of_place
end_place s r f = (place_first s.started s.ended f.place).1

-- an entry stands after a batch
pub entry_place : (s : SoFar) (r : Fields) → IsFine record_kinds.Ent s r → s.in_batch ≡ true
unfolding is_out_of_place
entry_place s r f = not_false s.in_batch (or_neither (not s.started || s.ended) (not s.in_batch) f.place).1

-- and no VER before VER
pub ver_place : (s : SoFar) (r : Fields) → IsFine record_kinds.Ver s r → begins_with_ver s.version ≡ false
unfolding is_out_of_place
ver_place s r f = (or_neither s.started (begins_with_ver s.version) f.place).1
