-- How what the records come to goes on by one more record that is fine.
use Rattle.std.proofs.Common.{◌≡◌, ◌+◌, ℕ, List, [], ◌∷◌, ◌++◌, Option, Some, None, Bool, true, false, cond, length, refl, ap, sym, arith, add-zero, zero-add, append-nil, append_assoc, ◌∙◌, inl, inr}
use Rattle.std.specs.Prelude.{filter_map, sum_by, ◌||◌, ◌&&◌, if◌then◌else◌}
use Rattle.std.specs.List.{cons_option, list_any}
use Rattle.std.proofs.lemmas.Bool.{cases_Bool}
use Rattle.std.proofs.lemmas.List.{length-append}
use Rattle.std.proofs.lemmas.List.Elements.{filter_map-append}
use Rattle.std.proofs.lemmas.List.Folds.{list_any-append}
use Rattle.std.proofs.lemmas.List.Sums.{sum_by-append}
use Rattle.cash_amounts.specs.declared.records.AccountRecord.{AccountRecord}
use Rattle.cash_amounts.specs.declared.records.SystemRecord.{SystemRecord}
use Rattle.period_calendar.specs.Calendar.{CivilDay}
use Rattle.batch_records.specs.Codes.{code_of}
use Rattle.batch_records.specs.Kinds.{kind_of}
use Rattle.batch_records.specs.Made.{account_from, account_in, account_of, accounts_of, date_in, date_of, ends_in_batch, entries_at, is_batch_kind, is_day, is_day_kind, is_end, is_end_kind, is_entry, is_entry_kind, is_late, is_late_kind, is_ver_kind, message_in, message_of, messages_from, reserve_in, reserve_of, reserves_from, so_far_of, stop_in, stop_of, stops_of, system_in, system_of, systems_of, version_behind, version_from, version_of}
use Rattle.batch_records.specs.Records.{Fields, field}
use Rattle.batch_records.specs.Words.{version_named}
use Rattle.batch_records.specs.Step.{after, after_kind}
use Rattle.batch_records.specs.declared.day.Message.{Message}
use Rattle.batch_records.specs.declared.day.Reserve.{Reserve}
use Rattle.batch_records.specs.declared.kinds.RecordKind.{RecordKind}
use Rattle.batch_records.specs.declared.kinds.RecordKind.TheVariants as record_kinds
use Rattle.batch_records.specs.declared.so_far.SoFar.{SoFar}
use Rattle.batch_records.proofs.BatchFacts.{entries_count, entries_other, in_batch_next, is_entry_known, messages_entry}
use Rattle.batch_records.proofs.BoolFacts.{or_false, or_neither, or_true}
use Rattle.batch_records.proofs.Fine.{IsFine, StartedAs, entry_place, fine, kind_known, started_as}

cons_option-append : {X : Type 0} (o : Option X) (xs ys : List X) → cons_option o (xs ++ ys) ≡ cons_option o xs ++ ys
cons_option-append None xs ys = refl
cons_option-append (Some x) xs ys = refl

accounts_of-next : (xs : List Fields) (r : Fields) → accounts_of (xs ++ r ∷ []) ≡ accounts_of xs ++ cons_option (account_of r) []
unfolding accounts_of
accounts_of-next xs r = filter_map-append account_of xs (r ∷ [])

systems_of-next : (xs : List Fields) (r : Fields) → systems_of (xs ++ r ∷ []) ≡ systems_of xs ++ cons_option (system_of r) []
unfolding systems_of
systems_of-next xs r = filter_map-append system_of xs (r ∷ [])

stops_of-next : (xs : List Fields) (r : Fields) → stops_of (xs ++ r ∷ []) ≡ stops_of xs ++ cons_option (stop_of r) []
unfolding stops_of
stops_of-next xs r = filter_map-append stop_of xs (r ∷ [])

stops_of-first : (x : Fields) (xs : List Fields) → length (stops_of (x ∷ xs)) ≡ length (stops_of (x ∷ [])) + length (stops_of xs)
unfolding stops_of
stops_of-first x xs = ap (λ (l : List ℕ). length l) (filter_map-append stop_of (x ∷ []) xs) ∙ length-append (filter_map stop_of (x ∷ [])) (filter_map stop_of xs)

reserves_from-next : (accounts : List AccountRecord) (xs : List Fields) (r : Fields)
    → reserves_from accounts (xs ++ r ∷ []) ≡ reserves_from accounts xs ++ cons_option (reserve_of (accounts ++ accounts_of xs) r) []
unfolding reserves_from accounts_of
reserves_from-next accounts [] r = rw (append-nil accounts) refl
reserves_from-next accounts (x ∷ xs) r =
    let more = reserves_from-next (accounts ++ accounts_of (x ∷ [])) xs r in
    let whole : (accounts ++ accounts_of (x ∷ [])) ++ accounts_of xs ≡ accounts ++ accounts_of (x ∷ xs) =
    append_assoc accounts (accounts_of (x ∷ [])) (accounts_of xs) ∙ ap (λ (l : List AccountRecord). accounts ++ l) (sym (filter_map-append account_of (x ∷ []) xs)) in
    rw (more, whole) (cons_option-append (reserve_of accounts x) (reserves_from (accounts ++ accounts_of (x ∷ [])) xs) (cons_option (reserve_of (accounts ++ accounts_of (x ∷ xs)) r) []))

pub version_from-next : (v : ℕ) (xs : List Fields) (r : Fields) → version_from v (xs ++ r ∷ []) ≡ version_behind (version_from v xs) r
version_from-next v [] r = refl
version_from-next v (x ∷ xs) r = version_from-next (version_behind v x) xs r

-- any record but an entry
messages_from-next : (v n : ℕ) (xs : List Fields) (r : Fields) → is_entry r ≡ false
    → messages_from v n (xs ++ r ∷ []) ≡ messages_from v n xs ++ cons_option (message_of (version_from v xs) (n + length (stops_of xs)) [] r) []
unfolding messages_from stops_of
messages_from-next v n [] r other = rw add-zero refl
messages_from-next v n (x ∷ xs) r other =
    let more = messages_from-next (version_behind v x) (n + length (stops_of (x ∷ []))) xs r other in
    let round : n + length (stops_of (x ∷ [])) + length (stops_of xs) ≡ n + length (stops_of (x ∷ xs)) = omega (arith, stops_of-first x xs) in
    rw (entries_other xs r other, more, round) (cons_option-append (message_of v n (entries_at xs) x) (messages_from (version_behind v x) (n + length (stops_of (x ∷ []))) xs)
    (cons_option (message_of (version_from (version_behind v x) xs) (n + length (stops_of (x ∷ xs))) [] r) []))

pub sum_one : {X : Type 0} (f : X → ℕ) (x : X) → sum_by f (x ∷ []) ≡ f x
sum_one f x = zero-add (f x)

-- the date after one more record of this kind
date_after : RecordKind → Fields → Option CivilDay → Option CivilDay
date_after record_kinds.Day r before = date_in r
date_after _ r before = before

date_of-first : (taken : List Fields) (r : Fields) → list_any is_day taken ≡ false → is_day r ≡ true → date_of (taken ++ r ∷ []) ≡ date_in r
date_of-first [] r none is = rw is refl
date_of-first (x ∷ xs) r none is =
    let both = or_neither (is_day x) (list_any is_day xs) none in
    rw (both.0, date_of-first xs r both.1 is) refl

date_of-other : (taken : List Fields) (r : Fields) → is_day r ≡ false → date_of (taken ++ r ∷ []) ≡ date_of taken
date_of-other [] r other = rw other refl
date_of-other (x ∷ xs) r other = rw (date_of-other xs r other) refl

date_of-next : (kind : RecordKind) (taken : List Fields) (r : Fields) → kind_of r ≡ Some kind → StartedAs kind (list_any is_day taken) → date_of (taken ++ r ∷ []) ≡ date_after kind r (date_of taken)
unfolding date_after
date_of-next record_kinds.Day taken r e h = date_of-first taken r h (rw e refl)
date_of-next record_kinds.Ver taken r e h = date_of-other taken r (rw e refl)
date_of-next record_kinds.As taken r e h = date_of-other taken r (rw e refl)
date_of-next record_kinds.Acc taken r e h = date_of-other taken r (rw e refl)
date_of-next record_kinds.Res taken r e h = date_of-other taken r (rw e refl)
date_of-next record_kinds.Bat taken r e h = date_of-other taken r (rw e refl)
date_of-next record_kinds.Ent taken r e h = date_of-other taken r (rw e refl)
date_of-next record_kinds.Pay taken r e h = date_of-other taken r (rw e refl)
date_of-next record_kinds.Liq taken r e h = date_of-other taken r (rw e refl)
date_of-next record_kinds.Obj taken r e h = date_of-other taken r (rw e refl)
date_of-next record_kinds.Cnf taken r e h = date_of-other taken r (rw e refl)
date_of-next record_kinds.Cyc taken r e h = date_of-other taken r (rw e refl)
date_of-next record_kinds.Tim taken r e h = date_of-other taken r (rw e refl)
date_of-next record_kinds.End taken r e h = date_of-other taken r (rw e refl)

abbrev whole : ℕ → Option CivilDay → List AccountRecord → List SystemRecord → List Reserve → List ℕ → List Message → ℕ → Bool → Bool → Bool → Bool → ℕ → SoFar
whole version date accounts systems reserves stops messages opened started begun ended in_batch entries = record {
  version = version;
  date = date;
  accounts = accounts;
  systems = systems;
  reserves = reserves;
  stops = stops;
  messages = messages;
  opened = opened;
  started = started;
  begun = begun;
  ended = ended;
  in_batch = in_batch;
  entries = entries;
}

-- what one more record of this kind adds to each part, where it is no entry
abbrev joined : RecordKind → SoFar → Fields → SoFar
joined kind s r = whole (if is_ver_kind kind then version_named (field r 1) else s.version) (date_after kind r s.date) (s.accounts ++ cons_option (account_in kind r) []) (s.systems ++ cons_option (system_in kind r) [])
    (s.reserves ++ cons_option (reserve_in s.accounts kind r) [])
    (s.stops ++ cons_option (stop_in kind r) []) (s.messages ++ cons_option (message_in s.version (0 + length s.stops) [] kind r) [])
    (s.opened + sum_by (λ a. a.opening) (cons_option (account_in kind r) [])) (s.started || (is_day_kind kind || false)) (s.begun || (is_late_kind kind || false)) (s.ended || (is_end_kind kind || false))
    (is_batch_kind kind || (is_entry_kind kind && s.in_batch)) (s.entries + cond (is_entry_kind kind) 1 0)

grown : (kind : RecordKind) (s : SoFar) (r : Fields) → is_entry_kind kind ≡ false → joined kind s r ≡ after_kind kind s r
unfolding after_kind date_after
grown record_kinds.Ver s r other =
    rw (append-nil s.accounts, append-nil s.systems, append-nil s.reserves, append-nil s.stops, append-nil s.messages, add-zero s.opened, or_false s.started, or_false s.begun, or_false s.ended, add-zero s.entries) refl
grown record_kinds.Day s r other =
    rw (append-nil s.accounts, append-nil s.systems, append-nil s.reserves, append-nil s.stops, append-nil s.messages, add-zero s.opened, or_true s.started, or_false s.begun, or_false s.ended, add-zero s.entries) refl
grown record_kinds.As s r other = rw (append-nil s.accounts, append-nil s.reserves, append-nil s.stops, append-nil s.messages, add-zero s.opened, or_false s.started, or_false s.begun, or_false s.ended, add-zero s.entries) refl
grown record_kinds.Acc s r other =
    rw (append-nil s.systems, append-nil s.reserves, append-nil s.stops, append-nil s.messages, sum_one (λ (a : AccountRecord). a.opening) (account_from r), or_false s.started, or_false s.begun, or_false s.ended, add-zero s.entries) refl
grown record_kinds.Res s r other =
    rw (append-nil s.accounts, append-nil s.systems, append-nil s.stops, append-nil s.messages, add-zero s.opened, or_false s.started, or_false s.begun, or_false s.ended, add-zero s.entries) refl
grown record_kinds.Bat s r other =
    rw (append-nil s.accounts, append-nil s.systems, append-nil s.reserves, append-nil s.stops, zero-add (length s.stops), add-zero s.opened, or_false s.started, or_true s.begun, or_false s.ended, add-zero s.entries) refl
grown record_kinds.Ent s r other = cc other
grown record_kinds.Pay s r other =
    rw (append-nil s.accounts, append-nil s.systems, append-nil s.reserves, append-nil s.stops, zero-add (length s.stops), add-zero s.opened, or_false s.started, or_true s.begun, or_false s.ended, add-zero s.entries) refl
grown record_kinds.Liq s r other =
    rw (append-nil s.accounts, append-nil s.systems, append-nil s.reserves, append-nil s.stops, zero-add (length s.stops), add-zero s.opened, or_false s.started, or_true s.begun, or_false s.ended, add-zero s.entries) refl
grown record_kinds.Obj s r other =
    rw (append-nil s.accounts, append-nil s.systems, append-nil s.reserves, append-nil s.stops, zero-add (length s.stops), add-zero s.opened, or_false s.started, or_true s.begun, or_false s.ended, add-zero s.entries) refl
grown record_kinds.Cnf s r other =
    rw (append-nil s.accounts, append-nil s.systems, append-nil s.reserves, append-nil s.stops, zero-add (length s.stops), add-zero s.opened, or_false s.started, or_true s.begun, or_false s.ended, add-zero s.entries) refl
grown record_kinds.Cyc s r other =
    rw (append-nil s.accounts, append-nil s.systems, append-nil s.reserves, append-nil s.stops, zero-add (length s.stops), add-zero s.opened, or_false s.started, or_true s.begun, or_false s.ended, add-zero s.entries) refl
grown record_kinds.Tim s r other = rw (append-nil s.accounts, append-nil s.systems, append-nil s.reserves, append-nil s.messages, add-zero s.opened, or_false s.started, or_true s.begun, or_false s.ended, add-zero s.entries) refl
grown record_kinds.End s r other =
    rw (append-nil s.accounts, append-nil s.systems, append-nil s.reserves, append-nil s.stops, append-nil s.messages, add-zero s.opened, or_false s.started, or_false s.begun, or_true s.ended, add-zero s.entries) refl

next_by : (kind : RecordKind) (taken : List Fields) (r : Fields) → kind_of r ≡ Some kind → is_entry_kind kind ≡ false → IsFine kind (so_far_of taken) r
    → so_far_of (taken ++ r ∷ []) ≡ after_kind kind (so_far_of taken) r
unfolding so_far_of version_of
next_by kind taken r e other f =
    let no : is_entry r ≡ false = rw e other in
    rw (
      version_from-next 1 taken r,
      date_of-next kind taken r e (started_as kind (so_far_of taken) r f),
      accounts_of-next taken r,
      systems_of-next taken r,
      reserves_from-next [] taken r,
      stops_of-next taken r,
      messages_from-next 1 0 taken r no,
      sum_by-append (λ (a : AccountRecord). a.opening) (accounts_of taken) (cons_option (account_of r) []),
      list_any-append is_day,
      list_any-append is_late,
      list_any-append is_end,
      in_batch_next taken r,
      entries_count taken r,
      e,
    )
    (grown kind (so_far_of taken) r other)

batch_before : (taken : List Fields) (r : Fields) → IsFine record_kinds.Ent (so_far_of taken) r → ends_in_batch taken ≡ true
unfolding so_far_of
batch_before taken r f = entry_place (so_far_of taken) r f

next_entry : (taken : List Fields) (r : Fields) → kind_of r ≡ Some record_kinds.Ent → IsFine record_kinds.Ent (so_far_of taken) r → so_far_of (taken ++ r ∷ []) ≡ after_kind record_kinds.Ent (so_far_of taken) r
unfolding so_far_of version_of after_kind date_after
next_entry taken r e f =
    let is : is_entry r ≡ true = rw e refl in
    let batch = batch_before taken r f in
    rw (
      version_from-next 1 taken r,
      date_of-next record_kinds.Ent taken r e (started_as record_kinds.Ent (so_far_of taken) r f),
      accounts_of-next taken r,
      systems_of-next taken r,
      reserves_from-next [] taken r,
      stops_of-next taken r,
      messages_entry 1 0 taken r is batch,
      sum_by-append (λ (a : AccountRecord). a.opening) (accounts_of taken) (cons_option (account_of r) []),
      list_any-append is_day,
      list_any-append is_late,
      list_any-append is_end,
      in_batch_next taken r,
      entries_count taken r,
      e,
      append-nil (accounts_of taken),
      append-nil (systems_of taken),
      append-nil (reserves_from [] taken),
      append-nil (stops_of taken),
      add-zero (sum_by (λ (a : AccountRecord). a.opening) (accounts_of taken)),
      or_false (list_any is_day taken),
      or_false (list_any is_late taken),
      or_false (list_any is_end taken),
      batch,
    )
    refl

pub so_far_next : (taken : List Fields) (r : Fields) → code_of taken r ≡ None → so_far_of (taken ++ r ∷ []) ≡ after (so_far_of taken) r
so_far_next taken r e =
    let known = kind_known (so_far_of taken) r e in
    elim (cases_Bool (is_entry_kind known.0)) [
      | inl entry ↦
          let is : kind_of r ≡ Some record_kinds.Ent = known.1 ∙ is_entry_known (Some known.0) entry in
          rw is (next_entry taken r is (fine record_kinds.Ent (so_far_of taken) r e is))
      | inr other ↦ rw known.1 (next_by known.0 taken r known.1 other (fine known.0 (so_far_of taken) r e known.1))
    ]
