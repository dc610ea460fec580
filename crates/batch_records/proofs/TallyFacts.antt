-- Records of a day that is under way are judged and taken as after all records before them.
use Rattle.std.proofs.Common.{◌≡◌, ◌∙◌, ◌+◌, ◌-◌, ◌<◌, ◌≤◌, ℕ, List, [], ◌∷◌, ◌++◌, Option, Some, None, Bool, true, false, not, length, length-append, refl, sym, ap, subst, arith}
use Rattle.std.specs.Prelude.{◌||◌, find, if◌then◌else◌, nat_le, unwrap_or}
use Rattle.std.specs.Option.{option_map_or}
use Rattle.cash_amounts.specs.declared.limits.TheConstants.{MAX_ENTRIES, MAX_MESSAGES, MAX_MESSAGES_BEFORE_THIRD}
use Rattle.period_calendar.specs.Calendar.{CivilDay}
use Rattle.batch_records.specs.Codes.{codes_in_order, first_code, has_bad_setup, has_bad_time, is_out_of_place, is_past_limit, is_twice, last_entries}
use Rattle.batch_records.specs.CodesByKind.{applies_to}
use Rattle.batch_records.specs.Kinds.{has_bad_amount, has_bad_date, has_bad_id, has_bad_name, has_bad_number, has_closing_date, has_other_word, kind_of}
use Rattle.batch_records.specs.Flat.{body_with_entries, has_entries, with_entries}
use Rattle.batch_records.specs.Made.{answer_from, batch_from, cycle_from, day_on, entry_from, last_stop, objection_from, payment_from, stop_from, transfer_from}
use Rattle.batch_records.specs.Records.{Fields}
use Rattle.batch_records.specs.Sound.{entries_in}
use Rattle.batch_records.specs.Step.{EndInBatch, IsInStep, after, after_kind, body_with, is_batch_body, with_entry, with_last, with_message}
use Rattle.batch_records.specs.Tallies.{IsSmall, States, StatesAs, StatesBy, applies_late, day_after, is_behind_setup, is_full, is_misplaced, is_setup_kind, is_untimely, late_code, late_code_of, late_codes_in_order, tally_after, tally_of}
use Rattle.batch_records.specs.Versions.{has_labels, is_third, most_entries, most_entries_of_day, most_messages}
use Rattle.batch_records.specs.DayRecord.{no_room}
use Rattle.batch_records.specs.declared.day.Body.{Body}
use Rattle.batch_records.specs.declared.day.Body.TheVariants as bodies
use Rattle.batch_records.specs.declared.day.DayCode.TheVariants as day_codes
use Rattle.batch_records.specs.declared.day.Entry.{Entry}
use Rattle.batch_records.specs.declared.day.Message.{Message}
use Rattle.batch_records.specs.declared.day.MessageRecord.{MessageRecord}
use Rattle.batch_records.specs.declared.day.RecordBody.{RecordBody}
use Rattle.batch_records.specs.declared.day.RecordBody.TheVariants as records
use Rattle.batch_records.specs.declared.kinds.RecordKind.{RecordKind}
use Rattle.batch_records.specs.declared.kinds.RecordKind.TheVariants as record_kinds
use Rattle.batch_records.specs.declared.so_far.SoFar.{SoFar}
use Rattle.batch_records.specs.declared.tally.Piece.{Piece}
use Rattle.batch_records.specs.declared.tally.Piece.TheVariants as pieces
use Rattle.batch_records.specs.declared.tally.Tally.{Tally}
use Rattle.batch_records.proofs.BoolFacts.{le_failed, or_false, or_neither, or_true}
use Rattle.batch_records.proofs.CodeFacts.{code_of_kind, code_without_kind}
use Rattle.batch_records.proofs.Fine.{IsFine, entry_place, find_none, fine, stop_ends}
use Rattle.batch_records.proofs.LastFacts.{last_is, length-with_last, with_last-split}
use Rattle.batch_records.proofs.VersionFacts.{entries_at_most, messages_at_most}

-- ---- the code is that of the records before it

begun_then : (begun : Bool) → (begun || false) ≡ true → begun ≡ true
begun_then begun e = sym (or_false begun) ∙ e

same_code : (kind : RecordKind) (s : SoFar) (r : Fields) → s.started ≡ true → (s.begun || not (is_setup_kind kind)) ≡ true
    → late_code_of kind (tally_of s) r ≡ find (λ c. applies_to kind c s r) codes_in_order
unfolding tally_of is_misplaced is_untimely is_full is_out_of_place has_bad_date has_closing_date has_bad_time is_twice has_bad_setup is_past_limit
same_code record_kinds.Ver s r started late = rw started refl
same_code record_kinds.Day s r started late = rw started refl
same_code record_kinds.As s r started late = rw (begun_then s.begun late, or_true (not s.started || s.ended)) refl
same_code record_kinds.Acc s r started late = rw (begun_then s.begun late, or_true (not s.started || s.ended)) refl
same_code record_kinds.Res s r started late = rw (begun_then s.begun late, or_true (not s.started || s.ended)) refl
same_code record_kinds.Bat s r started late = rw started refl
same_code record_kinds.Ent s r started late = rw started refl
same_code record_kinds.Pay s r started late = rw started refl
same_code record_kinds.Liq s r started late = rw started refl
same_code record_kinds.Obj s r started late = rw started refl
same_code record_kinds.Cnf s r started late = rw started refl
same_code record_kinds.Cyc s r started late = rw started refl
same_code record_kinds.Tim s r started late = rw started refl
same_code record_kinds.End s r started late = rw started refl

by_its_kind : (o : Option RecordKind) (s : SoFar) (r : Fields) → kind_of r ≡ o → s.started ≡ true → is_behind_setup s r ≡ true → late_code (tally_of s) r ≡ first_code s r
unfolding late_code
by_its_kind None s r is started late = rw is (sym (code_without_kind s r is))
by_its_kind (Some kind) s r is started late = rw is (same_code kind s r started (rw is at late) ∙ sym (code_of_kind kind s r is))

pub late_none : (t : Tally) (r : Fields) → kind_of r ≡ None → late_code t r ≡ Some day_codes.Kind
unfolding late_code
late_none t r is = rw is refl

pub late_some : (kind : RecordKind) (t : Tally) (r : Fields) → kind_of r ≡ Some kind → late_code t r ≡ late_code_of kind t r
unfolding late_code
late_some kind t r is = rw is refl

pub judged_alike : (s : SoFar) (r : Fields) → s.started ≡ true → is_behind_setup s r ≡ true → late_code (tally_of s) r ≡ first_code s r
judged_alike s r started late = by_its_kind (kind_of r) s r refl started late

-- ---- what a record without a code is

-- records that come to these numbers, as far as the texts of one after them are concerned
abbrev pub shadow : Tally → SoFar
shadow t = record {
  version = t.version;
  date = None;
  accounts = [];
  systems = [];
  reserves = [];
  stops = t.last_stop ∷ [];
  messages = [];
  opened = 0;
  started = true;
  begun = true;
  ended = t.ended;
  in_batch = t.in_batch;
  entries = t.entries;
}

-- a kind that isn't of the setup, nor VER or DAY
abbrev pub IsLate : RecordKind → Type 0
IsLate record_kinds.Ver = ⊥
IsLate record_kinds.Day = ⊥
IsLate record_kinds.As = ⊥
IsLate record_kinds.Acc = ⊥
IsLate record_kinds.Res = ⊥
IsLate _ = Unit {0}

pub record IsLateFine (kind : RecordKind) (t : Tally) (r : Fields) : Type 0 where
  pub words : has_other_word t.version kind r ≡ false
  pub place : is_misplaced kind t ≡ false
  pub names : has_bad_name kind r ≡ false
  pub ids : has_bad_id kind r ≡ false
  pub numbers : has_bad_number t.version kind r ≡ false
  pub amounts : has_bad_amount t.version kind r ≡ false
  pub times : is_untimely kind t r ≡ false
  pub limit : is_full kind t ≡ false

pub late_fine : (kind : RecordKind) (t : Tally) (r : Fields) → late_code_of kind t r ≡ None → IsLateFine kind t r
late_fine kind t r e =
    let all = find_none (λ c. applies_late kind c t r) late_codes_in_order e in
    record {
      words = all.1.0;
      place = all.1.1.0;
      names = all.1.1.1.0;
      ids = all.1.1.1.1.0;
      numbers = all.1.1.1.1.1.0;
      amounts = all.1.1.1.1.1.1.0;
      times = all.1.1.1.1.1.1.1.0;
      limit = all.1.1.1.1.1.1.1.1.0;
    }

pub is_late : (kind : RecordKind) (t : Tally) (r : Fields) → late_code_of kind t r ≡ None → IsLate kind
unfolding is_misplaced
is_late record_kinds.Ver t r e = cc (late_fine record_kinds.Ver t r e).place
is_late record_kinds.Day t r e = cc (late_fine record_kinds.Day t r e).place
is_late record_kinds.As t r e = cc (late_fine record_kinds.As t r e).place
is_late record_kinds.Acc t r e = cc (late_fine record_kinds.Acc t r e).place
is_late record_kinds.Res t r e = cc (late_fine record_kinds.Res t r e).place
is_late record_kinds.Bat t r e = tt
is_late record_kinds.Ent t r e = tt
is_late record_kinds.Pay t r e = tt
is_late record_kinds.Liq t r e = tt
is_late record_kinds.Obj t r e = tt
is_late record_kinds.Cnf t r e = tt
is_late record_kinds.Cyc t r e = tt
is_late record_kinds.Tim t r e = tt
is_late record_kinds.End t r e = tt

some_message : (version : ℕ) → nat_le (most_messages version) 0 ≡ false
some_message version = by_third (is_third version)
  where
    by_third : (third : Bool) → nat_le (if third then MAX_MESSAGES else MAX_MESSAGES_BEFORE_THIRD) 0 ≡ false
    by_third true = refl
    by_third false = refl

-- after the shadow's records a message of this kind has no code, but for its texts
shadow_message : (kind : RecordKind) (t : Tally) (r : Fields) → IsLateFine kind t r → is_out_of_place kind (shadow t) ≡ is_misplaced kind t → has_bad_date kind r ≡ false → has_closing_date kind r ≡ false
    → has_bad_time kind (shadow t) r ≡ is_untimely kind t r → is_twice kind (shadow t) r ≡ false → has_bad_setup kind (shadow t) r ≡ false → is_past_limit kind (shadow t) r ≡ false → IsFine kind (shadow t) r
shadow_message kind t r f place dates closed times twice setup limit = record {
  words = f.words;
  place = place ∙ f.place;
  dates = dates;
  closed = closed;
  names = f.names;
  ids = f.ids;
  numbers = f.numbers;
  amounts = f.amounts;
  times = times ∙ f.times;
  twice = twice;
  setup = setup;
  limit = limit;
}

some_entry : (version : ℕ) → nat_le (most_entries version) 0 ≡ false
some_entry version = by_labels (has_labels version)
  where
    by_labels : (labels : Bool) → nat_le (if labels then 50000 else 10000) 0 ≡ false
    by_labels true = refl
    by_labels false = refl

entry_limit : (t : Tally) (last : Bool) → (last || nat_le (most_entries_of_day t.version) t.entries) ≡ false → (nat_le (most_entries t.version) 0 || nat_le (most_entries_of_day t.version) t.entries) ≡ false
entry_limit t last e = rw (some_entry t.version) (or_neither last (nat_le (most_entries_of_day t.version) t.entries) e).1

pub shadow_fine : (kind : RecordKind) (t : Tally) (r : Fields) → IsLate kind → IsLateFine kind t r → IsFine kind (shadow t) r
unfolding is_misplaced is_untimely is_full is_out_of_place has_bad_date has_closing_date has_bad_time is_twice has_bad_setup is_past_limit
shadow_fine record_kinds.Ver t r late f = absurd late
shadow_fine record_kinds.Day t r late f = absurd late
shadow_fine record_kinds.As t r late f = absurd late
shadow_fine record_kinds.Acc t r late f = absurd late
shadow_fine record_kinds.Res t r late f = absurd late
shadow_fine record_kinds.Bat t r late f = shadow_message record_kinds.Bat t r f refl refl refl refl refl refl (some_message t.version)
shadow_fine record_kinds.Ent t r late f = shadow_message record_kinds.Ent t r f refl refl refl refl refl refl (entry_limit t _ f.limit)
shadow_fine record_kinds.Pay t r late f = shadow_message record_kinds.Pay t r f refl refl refl refl refl refl (some_message t.version)
shadow_fine record_kinds.Liq t r late f = shadow_message record_kinds.Liq t r f refl refl refl refl refl refl (some_message t.version)
shadow_fine record_kinds.Obj t r late f = shadow_message record_kinds.Obj t r f refl refl refl refl refl refl (some_message t.version)
shadow_fine record_kinds.Cnf t r late f = shadow_message record_kinds.Cnf t r f refl refl refl refl refl refl (some_message t.version)
shadow_fine record_kinds.Cyc t r late f = shadow_message record_kinds.Cyc t r f refl refl refl refl refl refl (some_message t.version)
shadow_fine record_kinds.Tim t r late f = shadow_message record_kinds.Tim t r f refl refl refl refl refl refl refl
shadow_fine record_kinds.End t r late f = shadow_message record_kinds.End t r f refl refl refl refl refl refl refl

pub shadowed : (kind : RecordKind) (t : Tally) (r : Fields) → late_code_of kind t r ≡ None → IsFine kind (shadow t) r
shadowed kind t r e = shadow_fine kind t r (is_late kind t r e) (late_fine kind t r e)

-- ---- the numbers stay small

most_entries_small : (version : ℕ) → most_entries version ≤ MAX_ENTRIES
most_entries_small version = by_labels (has_labels version)
  where
    by_labels : (labels : Bool) → (if labels then 50000 else 10000) ≤ MAX_ENTRIES
    by_labels true = omega arith
    by_labels false = omega arith

message_small : (t : Tally) (m : MessageRecord) → t.messages < most_messages t.version → IsSmall t → IsSmall (tally_after (pieces.Message m) t)
message_small t m few h = record {
  messages = omega (arith, few, messages_at_most t.version);
  entries = h.entries;
  last_entries = omega arith;
  stops = h.stops;
  last_stop = h.last_stop;
}

message_few : (version messages : ℕ) → nat_le (most_messages version) messages ≡ false → messages < most_messages version
message_few version messages e = le_failed (most_messages version) messages e

pub small_after : (kind : RecordKind) (t : Tally) (r : Fields) (piece : Piece) → late_code_of kind t r ≡ None → StatesAs kind t r piece → IsSmall t → IsSmall (tally_after piece t)
unfolding is_full
small_after record_kinds.Ver t r piece e states h = absurd states
small_after record_kinds.Day t r piece e states h = absurd states
small_after record_kinds.As t r piece e states h = absurd states
small_after record_kinds.Acc t r piece e states h = absurd states
small_after record_kinds.Res t r piece e states h = absurd states
small_after record_kinds.Bat t r (pieces.Message m) e states h = message_small t m (message_few t.version t.messages (late_fine record_kinds.Bat t r e).limit) h
small_after record_kinds.Bat t r (pieces.Entry entry) e states h = absurd states
small_after record_kinds.Bat t r (pieces.Stop time) e states h = absurd states
small_after record_kinds.Bat t r pieces.End e states h = absurd states
small_after record_kinds.Pay t r (pieces.Message m) e states h = message_small t m (message_few t.version t.messages (late_fine record_kinds.Pay t r e).limit) h
small_after record_kinds.Pay t r (pieces.Entry entry) e states h = absurd states
small_after record_kinds.Pay t r (pieces.Stop time) e states h = absurd states
small_after record_kinds.Pay t r pieces.End e states h = absurd states
small_after record_kinds.Liq t r (pieces.Message m) e states h = message_small t m (message_few t.version t.messages (late_fine record_kinds.Liq t r e).limit) h
small_after record_kinds.Liq t r (pieces.Entry entry) e states h = absurd states
small_after record_kinds.Liq t r (pieces.Stop time) e states h = absurd states
small_after record_kinds.Liq t r pieces.End e states h = absurd states
small_after record_kinds.Obj t r (pieces.Message m) e states h = message_small t m (message_few t.version t.messages (late_fine record_kinds.Obj t r e).limit) h
small_after record_kinds.Obj t r (pieces.Entry entry) e states h = absurd states
small_after record_kinds.Obj t r (pieces.Stop time) e states h = absurd states
small_after record_kinds.Obj t r pieces.End e states h = absurd states
small_after record_kinds.Cnf t r (pieces.Message m) e states h = message_small t m (message_few t.version t.messages (late_fine record_kinds.Cnf t r e).limit) h
small_after record_kinds.Cnf t r (pieces.Entry entry) e states h = absurd states
small_after record_kinds.Cnf t r (pieces.Stop time) e states h = absurd states
small_after record_kinds.Cnf t r pieces.End e states h = absurd states
small_after record_kinds.Cyc t r (pieces.Message m) e states h = message_small t m (message_few t.version t.messages (late_fine record_kinds.Cyc t r e).limit) h
small_after record_kinds.Cyc t r (pieces.Entry entry) e states h = absurd states
small_after record_kinds.Cyc t r (pieces.Stop time) e states h = absurd states
small_after record_kinds.Cyc t r pieces.End e states h = absurd states
small_after record_kinds.Ent t r (pieces.Entry entry) e states h =
    let full = or_neither (nat_le (most_entries t.version) t.last_entries) (nat_le (most_entries_of_day t.version) t.entries) (late_fine record_kinds.Ent t r e).limit in
    let last : t.last_entries < most_entries t.version = le_failed (most_entries t.version) t.last_entries full.0 in
    let all : t.entries < most_entries_of_day t.version = le_failed (most_entries_of_day t.version) t.entries full.1 in
    record {
      messages = h.messages;
      entries = omega (arith, all, entries_at_most t.version);
      last_entries = omega (arith, last, most_entries_small t.version);
      stops = h.stops;
      last_stop = h.last_stop;
    }
small_after record_kinds.Ent t r (pieces.Message m) e states h = absurd states
small_after record_kinds.Ent t r (pieces.Stop time) e states h = absurd states
small_after record_kinds.Ent t r pieces.End e states h = absurd states
small_after record_kinds.Tim t r (pieces.Stop time) e states h =
    let ends = stop_ends (shadow t) r (shadowed record_kinds.Tim t r e) in
    let low : t.last_stop < stop_from r = ends.0 in
    let high : stop_from r < 86400 = ends.1 in
    let stops = h.stops in
    record {
      messages = h.messages;
      entries = h.entries;
      last_entries = h.last_entries;
      stops = omega (arith, states, low, stops);
      last_stop = omega (arith, states, high);
    }
small_after record_kinds.Tim t r (pieces.Message m) e states h = absurd states
small_after record_kinds.Tim t r (pieces.Entry entry) e states h = absurd states
small_after record_kinds.Tim t r pieces.End e states h = absurd states
small_after record_kinds.End t r pieces.End e states h = record { messages = h.messages; entries = h.entries; last_entries = h.last_entries; stops = h.stops; last_stop = h.last_stop }
small_after record_kinds.End t r (pieces.Message m) e states h = absurd states
small_after record_kinds.End t r (pieces.Entry entry) e states h = absurd states
small_after record_kinds.End t r (pieces.Stop time) e states h = absurd states

pub small_by : (o : Option RecordKind) (kind : RecordKind) (t : Tally) (r : Fields) (piece : Piece) → o ≡ Some kind → StatesBy o t r piece → StatesAs kind t r piece
small_by o kind t r piece is states = subst (λ o. StatesBy o t r piece) is states

-- ---- what records come to goes on

kind_kept : (b : RecordBody) → is_batch_body (body_with_entries b []) ≡ has_entries b
kind_kept (records.Batch procedure info from till count sum) = refl
kind_kept (records.Pay high debit credit amount) = refl
kind_kept (records.Liquidity debit credit amount) = refl
kind_kept (records.Object system batch) = refl
kind_kept (records.Confirm batch answer) = refl
kind_kept (records.Cycle start) = refl

-- the numbers and the day go on by a piece
pub record GoesOnBy (s new : SoFar) (piece : Piece) : Type 0 where
  pub tally : tally_of new ≡ tally_after piece (tally_of s)
  pub day : (date : CivilDay) → day_on date new ≡ day_after piece (day_on date s)

message_after : (s : SoFar) (m : Message) (own : MessageRecord) → with_entries own [] ≡ m → length (entries_in m.body) ≡ 0 → GoesOnBy s (with_message m (is_batch_body m.body) s) (pieces.Message own)
unfolding tally_of
message_after s m own e none =
    let batch : is_batch_body m.body ≡ has_entries own.body = sym (ap (λ (x : Message). is_batch_body x.body) e) ∙ kind_kept own.body in
    let last : last_entries (s.messages ++ m ∷ []) ≡ 0 = ap (λ o. option_map_or (λ (x : Message). length (entries_in x.body)) o 0) (last_is s.messages m) ∙ none in
    let more : length (s.messages ++ m ∷ []) ≡ length s.messages + 1 = length-append s.messages (m ∷ []) in
    record {
      tally = λ i. record { version = s.version; ended = s.ended; in_batch = batch i; last_stop = last_stop s.stops; stops = length s.stops; messages = more i; entries = s.entries; last_entries = last i };
      day = λ date i. record { version = s.version; date = date; accounts = s.accounts; systems = s.systems; reserves = s.reserves; stops = s.stops; messages = s.messages ++ sym e i ∷ []; room = no_room };
    }

batch_grows : (e : Entry) (b : Body) → is_batch_body b ≡ true → length (entries_in (body_with e b)) ≡ length (entries_in b) + 1
batch_grows e (bodies.Batch procedure info from till count sum entries) h = length-append entries (e ∷ [])
batch_grows e (bodies.Pay high debit credit amount) h = cc
batch_grows e (bodies.Liquidity debit credit amount) h = cc
batch_grows e (bodies.Object system batch) h = cc
batch_grows e (bodies.Confirm batch answer) h = cc
batch_grows e (bodies.Cycle start) h = cc

last_of : (messages before : List Message) (m : Message) → messages ≡ before ++ m ∷ [] → last_entries messages ≡ length (entries_in m.body)
last_of messages before m e = ap last_entries e ∙ ap (λ o. option_map_or (λ (x : Message). length (entries_in x.body)) o 0) (last_is before m)

entry_after : (s : SoFar) (e own : Entry) → own ≡ e → EndInBatch s.messages → GoesOnBy s (record s { messages = with_last (with_entry e) s.messages; entries = s.entries + 1 }) (pieces.Entry own)
unfolding tally_of
entry_after s e own is ends =
    let now : with_last (with_entry e) s.messages ≡ ends.before ++ with_entry e ends.last ∷ [] = ap (with_last (with_entry e)) ends.split ∙ with_last-split (with_entry e) ends.before ends.last in
    let last : last_entries (with_last (with_entry e) s.messages) ≡ last_entries s.messages + 1 =
    last_of _ ends.before (with_entry e ends.last) now ∙ batch_grows e ends.last.body ends.batch ∙ ap (λ n. n + 1) (sym (last_of s.messages ends.before ends.last ends.split)) in
    record {
      tally = λ i. record { version = s.version; ended = s.ended; in_batch = s.in_batch; last_stop = last_stop s.stops; stops = length s.stops; messages = length-with_last (with_entry e) s.messages i; entries = s.entries + 1; last_entries = last i };
      day = λ date i. record { version = s.version; date = date; accounts = s.accounts; systems = s.systems; reserves = s.reserves; stops = s.stops; messages = with_last (with_entry (sym is i)) s.messages; room = no_room };
    }

stop_after : (s : SoFar) (time own : ℕ) → own ≡ time → GoesOnBy s (record s { stops = s.stops ++ time ∷ []; begun = true; in_batch = false }) (pieces.Stop own)
unfolding tally_of
stop_after s time own is =
    let last : last_stop (s.stops ++ time ∷ []) ≡ own = ap (λ o. unwrap_or o 0) (last_is s.stops time) ∙ sym is in
    let more : length (s.stops ++ time ∷ []) ≡ length s.stops + 1 = length-append s.stops (time ∷ []) in
    record {
      tally = λ i. record { version = s.version; ended = s.ended; in_batch = false; last_stop = last i; stops = more i; messages = length s.messages; entries = s.entries; last_entries = last_entries s.messages };
      day = λ date i. record { version = s.version; date = date; accounts = s.accounts; systems = s.systems; reserves = s.reserves; stops = s.stops ++ sym is i ∷ []; messages = s.messages; room = no_room };
    }

end_after : (s : SoFar) → GoesOnBy s (record s { ended = true; in_batch = false }) pieces.End
unfolding tally_of
end_after s = record { tally = refl; day = λ date. refl }

goes_as : (kind : RecordKind) (s : SoFar) (r : Fields) (piece : Piece) → IsInStep s → IsFine kind s r → StatesAs kind (tally_of s) r piece → GoesOnBy s (after_kind kind s r) piece
unfolding tally_of after_kind
goes_as record_kinds.Ver s r piece h f states = absurd states
goes_as record_kinds.Day s r piece h f states = absurd states
goes_as record_kinds.As s r piece h f states = absurd states
goes_as record_kinds.Acc s r piece h f states = absurd states
goes_as record_kinds.Res s r piece h f states = absurd states
goes_as record_kinds.Bat s r (pieces.Message m) h f states = message_after s (batch_from s.version (length s.stops) [] r) m states refl
goes_as record_kinds.Bat s r (pieces.Entry entry) h f states = absurd states
goes_as record_kinds.Bat s r (pieces.Stop time) h f states = absurd states
goes_as record_kinds.Bat s r pieces.End h f states = absurd states
goes_as record_kinds.Pay s r (pieces.Message m) h f states = message_after s (payment_from (length s.stops) r) m states refl
goes_as record_kinds.Pay s r (pieces.Entry entry) h f states = absurd states
goes_as record_kinds.Pay s r (pieces.Stop time) h f states = absurd states
goes_as record_kinds.Pay s r pieces.End h f states = absurd states
goes_as record_kinds.Liq s r (pieces.Message m) h f states = message_after s (transfer_from (length s.stops) r) m states refl
goes_as record_kinds.Liq s r (pieces.Entry entry) h f states = absurd states
goes_as record_kinds.Liq s r (pieces.Stop time) h f states = absurd states
goes_as record_kinds.Liq s r pieces.End h f states = absurd states
goes_as record_kinds.Obj s r (pieces.Message m) h f states = message_after s (objection_from (length s.stops) r) m states refl
goes_as record_kinds.Obj s r (pieces.Entry entry) h f states = absurd states
goes_as record_kinds.Obj s r (pieces.Stop time) h f states = absurd states
goes_as record_kinds.Obj s r pieces.End h f states = absurd states
goes_as record_kinds.Cnf s r (pieces.Message m) h f states = message_after s (answer_from (length s.stops) r) m states refl
goes_as record_kinds.Cnf s r (pieces.Entry entry) h f states = absurd states
goes_as record_kinds.Cnf s r (pieces.Stop time) h f states = absurd states
goes_as record_kinds.Cnf s r pieces.End h f states = absurd states
goes_as record_kinds.Cyc s r (pieces.Message m) h f states = message_after s (cycle_from (length s.stops) r) m states refl
goes_as record_kinds.Cyc s r (pieces.Entry entry) h f states = absurd states
goes_as record_kinds.Cyc s r (pieces.Stop time) h f states = absurd states
goes_as record_kinds.Cyc s r pieces.End h f states = absurd states
goes_as record_kinds.Ent s r (pieces.Entry entry) h f states = entry_after s (entry_from r) entry states (h.batch (entry_place s r f))
goes_as record_kinds.Ent s r (pieces.Message m) h f states = absurd states
goes_as record_kinds.Ent s r (pieces.Stop time) h f states = absurd states
goes_as record_kinds.Ent s r pieces.End h f states = absurd states
goes_as record_kinds.Tim s r (pieces.Stop time) h f states = stop_after s (stop_from r) time states
goes_as record_kinds.Tim s r (pieces.Message m) h f states = absurd states
goes_as record_kinds.Tim s r (pieces.Entry entry) h f states = absurd states
goes_as record_kinds.Tim s r pieces.End h f states = absurd states
goes_as record_kinds.End s r pieces.End h f states = end_after s
goes_as record_kinds.End s r (pieces.Message m) h f states = absurd states
goes_as record_kinds.End s r (pieces.Entry entry) h f states = absurd states
goes_as record_kinds.End s r (pieces.Stop time) h f states = absurd states

goes_by : (o : Option RecordKind) (s : SoFar) (r : Fields) (piece : Piece) → kind_of r ≡ o → IsInStep s → first_code s r ≡ None → StatesBy o (tally_of s) r piece → GoesOnBy s (after s r) piece
goes_by None s r piece is h e states = absurd states
goes_by (Some kind) s r piece is h e states = rw is (goes_as kind s r piece h (fine kind s r e is) states)

pub goes_on : (s : SoFar) (r : Fields) (piece : Piece) → IsInStep s → first_code s r ≡ None → States (tally_of s) r piece → GoesOnBy s (after s r) piece
goes_on s r piece h e states = goes_by (kind_of r) s r piece refl h e states
