-- What stays true of the records so far by one more record that is fine.
use Rattle.std.proofs.Common.{◌≡◌, ◌<◌, ◌≤◌, ◌+◌, ◌^◌, ℕ, zero, suc, List, [], ◌∷◌, ◌++◌, Option, Some, None, Bool, true, false, not, ◌&&◌, ◌||◌, length, refl, subst, arith, ◌∙◌}
use Rattle.std.specs.Prelude.{◌==◌, bytes_eq, codes, drop, if◌then◌else◌, is_none, nat_eq, nat_le, slice_get, sum_by, unwrap_or}
use Rattle.std.specs.List.{list_all, list_any}
use Rattle.std.proofs.lemmas.Bool.{or_left, or_right}
use Rattle.std.proofs.lemmas.List.{length-append}
use Rattle.std.proofs.lemmas.List.Sums.{sum_by-append}
use Rattle.cash_amounts.specs.Kinds.{is_dca}
use Rattle.cash_amounts.specs.Tests.{some_passes}
use Rattle.cash_amounts.specs.declared.cents.TheConstants.{MAX_CENTS}
use Rattle.cash_amounts.specs.declared.records.AccountRecord.{AccountRecord}
use Rattle.cash_amounts.specs.declared.records.Procedure.TheVariants as procedures
use Rattle.period_calendar.specs.Calendar.{CivilDay, day_number, days_of_months, days_of_years, is_civil, weekday}
use Rattle.period_calendar.specs.Closing.{is_closing, is_open}
use Rattle.period_calendar.specs.Easter.{days_to_sunday, easter_place, full_moon, weeks_back}
use Rattle.period_calendar.specs.Times.{time_of_text}
use Rattle.period_calendar.proofs.TimeLemmas.{time_text_of}
use Rattle.batch_records.specs.Amounts.{amount_in, cents_of, spelled_cents, within_largest}
use Rattle.batch_records.specs.Codes.{first_code, is_kept_already}
use Rattle.batch_records.specs.CountText.{count_in}
use Rattle.batch_records.specs.Kinds.{fields_in, has_other_fields, has_other_word}
use Rattle.batch_records.specs.Made.{account_from, accounts_of, answer_from, batch_from, cycle_from, day_in, day_on, entry_from, messages_from, no_date, number_named, objection_from, payment_from, procedure_in, reserve_from, reserves_from, so_far_of, stop_from, stops_of, system_from, systems_of, transfer_from, time_in, version_of}
use Rattle.batch_records.specs.Records.{Fields, field}
use Rattle.batch_records.specs.Sound.{entries_in, is_open_date, is_sound, is_sound_body, is_spelled_account, is_spelled_entry, is_spelled_message, is_spelled_system, is_time_or_none, are_kept_once, has_few_entries, has_fit_earliest, is_dca_number, is_kept_among, is_sound_reserve, may_wait}
use Rattle.batch_records.specs.Step.{IsInStep, after, after_kind, is_batch_body, with_entry, with_last, with_message}
use Rattle.batch_records.specs.Words.{procedure_named, technical_named, version_named}
use Rattle.batch_records.specs.declared.day.Message.{Message}
use Rattle.batch_records.specs.declared.day.Reserve.{Reserve}
use Rattle.batch_records.specs.declared.kinds.RecordKind.{RecordKind}
use Rattle.batch_records.specs.declared.kinds.RecordKind.TheVariants as record_kinds
use Rattle.batch_records.specs.declared.so_far.SoFar.{SoFar}
use Rattle.batch_records.proofs.BoolFacts.{and_both, le_test, lt_test, not_false, not_true, or_neither}
use Rattle.batch_records.proofs.CountTextFacts.{count_few}
use Rattle.batch_records.proofs.EntryFacts.{entry_counts, entry_ends, entry_fits, entry_of_version}
use Rattle.batch_records.proofs.Fine.{IsFine, answer_count, answer_texts, batch_count, batch_texts, cycle_count, cycle_texts, started_as, day_date, entry_amount, entry_count, entry_few, entry_place, entry_texts, fine, fine_form, kind_known, objection_count, objection_texts, payment_amount, payment_count, payment_texts, reserve_new, reserve_of_dca, reserve_labels, reserve_small, stop_ends, transfer_amount, transfer_count, transfer_texts, ver_place}
use Rattle.batch_records.proofs.AccountFacts.{account_count, account_joins, account_opens, account_spelled, system_count, system_new, system_no_bank, system_spelled}
use Rattle.batch_records.proofs.SetupFacts.{accounts_next, accounts_under, systems_next}
use Rattle.batch_records.proofs.SoundFacts.{MessageParts, SetupParts, all_next, any_next, few_stops, message_parts, rounds_next, rounds_within, setup_parts, sound_whole, stops_next, VersionParts, in_labels, in_limits, version_parts}
use Rattle.batch_records.proofs.VersionFacts.{entries_grow, messages_at_most, messages_grow, named_begins}
use Rattle.batch_records.proofs.StepFacts.{sum_one}
use Rattle.batch_records.specs.Versions.{count_field, from_label, from_place, from_text, has_stated_times, info_text, has_labels, is_never_early, most_entries, most_messages, states_from, sum_field, text_behind, till_text}

-- ---- the parts of what was read

-- a date on which TARGET isn't closed
abbrev some_date : CivilDay
some_date = record { year = 2025; month = 6; day = 2 }

some_date_open : is_open_date some_date ≡ true
unfolding is_open is_civil is_closing weekday day_number days_of_years days_of_months easter_place full_moon days_to_sunday weeks_back
some_date_open = refl

pub setup_so_far : (s : SoFar) → IsInStep s → SetupParts s.accounts s.systems
setup_so_far s h = setup_parts (day_on some_date s) (h.sound some_date some_date_open)

pub messages_so_far : (s : SoFar) → IsInStep s → MessageParts s.version s.stops s.messages
messages_so_far s h = message_parts (day_on some_date s) (h.sound some_date some_date_open)

pub version_so_far : (s : SoFar) → IsInStep s → VersionParts s.version s.accounts s.reserves s.messages
version_so_far s h = version_parts (day_on some_date s) (h.sound some_date some_date_open)

sound_on : (s : SoFar) → SetupParts s.accounts s.systems → MessageParts s.version s.stops s.messages → VersionParts s.version s.accounts s.reserves s.messages → (date : CivilDay) → is_open_date date ≡ true → is_sound (day_on date s) ≡ true
sound_on s p q v date dated = sound_whole (day_on date s) dated p q v

-- a round fits 32 bits
pub small_round : (s : SoFar) → IsInStep s → length s.stops < 2 ^ 32
small_round s h = omega (arith, few_stops s.stops (messages_so_far s h).stops_fit)

-- and so do the numbers of accounts
pub small_accounts : (s : SoFar) → IsInStep s → length s.accounts < 2 ^ 32
small_accounts s h = let few = (setup_so_far s h).few_accounts in omega (arith, few)

pub in_step_first : IsInStep (so_far_of [])
unfolding so_far_of accounts_of stops_of messages_from reserves_from systems_of version_of
in_step_first = record {
  sound = λ date dated. rw dated refl;
  opened = refl;
  entries = refl;
  batch = λ e. cc e;
  dated = λ e. cc e;
  started = λ e. cc e;
}

payment_spelled : (s : SoFar) (r : Fields) → IsFine record_kinds.Pay s r → is_spelled_message (payment_from (length s.stops) r) ≡ true
payment_spelled s r f = let t = payment_texts s r f in rw (t.0, t.1, t.2, t.3) refl

transfer_spelled : (s : SoFar) (r : Fields) → IsFine record_kinds.Liq s r → is_spelled_message (transfer_from (length s.stops) r) ≡ true
transfer_spelled s r f = let t = transfer_texts s r f in rw (t.0, t.1, t.2, t.3) refl

objection_spelled : (s : SoFar) (r : Fields) → IsFine record_kinds.Obj s r → is_spelled_message (objection_from (length s.stops) r) ≡ true
objection_spelled s r f = let t = objection_texts s r f in rw (t.0, t.1, t.2, t.3) refl

answer_spelled : (s : SoFar) (r : Fields) → IsFine record_kinds.Cnf s r → is_spelled_message (answer_from (length s.stops) r) ≡ true
answer_spelled s r f = let t = answer_texts s r f in rw (t.0, t.1, t.2) refl

cycle_spelled : (s : SoFar) (r : Fields) → IsFine record_kinds.Cyc s r → is_spelled_message (cycle_from (length s.stops) r) ≡ true
cycle_spelled s r f = let t = cycle_texts s r f in rw (t.0, t.1) refl

batch_spelled : (s : SoFar) (r : Fields) → IsFine record_kinds.Bat s r → is_spelled_message (batch_from s.version (length s.stops) [] r) ≡ true
batch_spelled s r f = let t = batch_texts s r f in rw (t.0, t.1, lt_test (count_in (count_field s.version r)) (10 ^ 7) (count_few (count_field s.version r))) refl

entry_spelled : (s : SoFar) (r : Fields) → IsFine record_kinds.Ent s r → is_spelled_entry (entry_from r) ≡ true
entry_spelled s r f = let t = entry_texts s r f in rw (t.0, t.1) refl

-- ---- the times and the sum of a batch

time_within : (text : List ℕ) (o : Option ℕ) → time_of_text text ≡ o → is_time_or_none o ≡ true
time_within text None is = refl
time_within text (Some t) is = le_test t 86400 (time_text_of text t is).1

end_within : (stated : Option (List ℕ)) → is_time_or_none (time_in stated) ≡ true
end_within None = refl
end_within (Some text) = time_within text (time_of_text text) refl

largest : (n : ℕ) (b : Bool) → nat_le n MAX_CENTS ≡ b → nat_le (unwrap_or (if b then Some n else None) 0) (10 ^ 18) ≡ true
largest n true is = is
largest n false is = refl

within : (o : Option ℕ) → nat_le (unwrap_or (within_largest o) 0) (10 ^ 18) ≡ true
within None = refl
within (Some n) = largest n (nat_le n MAX_CENTS) refl

amount_within : (text : List ℕ) → nat_le (amount_in text) (10 ^ 18) ≡ true
unfolding cents_of
amount_within text = within (spelled_cents text)

batch_sound : (version round : ℕ) (r : Fields) → is_sound_body (batch_from version round [] r).body ≡ true
batch_sound version round r = rw (end_within (info_text version r), end_within (from_text version r), end_within (till_text version r), amount_within (sum_field version r)) refl

opened_next : (s : SoFar) (r : Fields) → IsInStep s → s.opened + amount_in (field r 5) ≡ sum_by (λ a. a.opening) (s.accounts ++ account_from r ∷ [])
opened_next s r h =
    let opened = h.opened in
    rw (sum_by-append (λ (a : AccountRecord). a.opening) s.accounts (account_from r ∷ []), sum_one (λ (a : AccountRecord). a.opening) (account_from r), opened) refl

account_fits_in : (s : SoFar) (r : Fields) → IsFine record_kinds.Acc s r → IsInStep s → SetupParts (s.accounts ++ account_from r ∷ []) s.systems
account_fits_in s r f h =
    let p = setup_so_far s h in
    let sum = opened_next s r h in
    record {
      systems_fit = p.systems_fit;
      accounts_fit = accounts_next s.systems s.accounts (account_from r) (account_joins s r f) p.accounts_fit;
      few_systems = p.few_systems;
      few_accounts = omega (arith, length-append s.accounts (account_from r ∷ []), account_count s r f);
      openings = omega (arith, sum, account_opens s r f);
      spelled_accounts = all_next is_spelled_account s.accounts (account_from r) p.spelled_accounts (account_spelled s r f);
      spelled_systems = p.spelled_systems;
    }

system_fits_in : (s : SoFar) (r : Fields) → IsFine record_kinds.As s r → IsInStep s → SetupParts s.accounts (s.systems ++ system_from r ∷ [])
system_fits_in s r f h =
    let p = setup_so_far s h in
    record {
      systems_fit = systems_next s.systems (system_from r) (system_new s r f) p.systems_fit;
      accounts_fit = accounts_under s.systems (system_from r) [] s.accounts (system_no_bank s r f) p.accounts_fit;
      few_systems = omega (arith, length-append s.systems (system_from r ∷ []), system_count s r f);
      few_accounts = p.few_accounts;
      openings = p.openings;
      spelled_accounts = p.spelled_accounts;
      spelled_systems = all_next is_spelled_system s.systems (system_from r) p.spelled_systems (system_spelled s r f);
    }

-- one more message of the last round, without entries
message_fits_in : (s : SoFar) (m : Message) → IsInStep s → m.round ≡ length s.stops → is_sound_body m.body ≡ true → is_spelled_message m ≡ true → length s.messages < most_messages s.version → length (entries_in m.body) ≡ 0
    → MessageParts s.version s.stops (s.messages ++ m ∷ [])
message_fits_in s m h round sound spelled few none =
    let p = messages_so_far s h in
    let entries = p.few_entries in
    let entries_fit = p.entries_fit in
    let messages_fit : length (s.messages ++ m ∷ []) ≤ most_messages s.version = omega (arith, length-append s.messages (m ∷ []), few) in
    let sum : sum_by (λ m. length (entries_in m.body)) (s.messages ++ m ∷ []) ≡ sum_by (λ m. length (entries_in m.body)) s.messages + length (entries_in m.body) =
    sum_by-append (λ (m : Message). length (entries_in m.body)) s.messages (m ∷ []) ∙ rw (sum_one (λ (m : Message). length (entries_in m.body)) m) refl in
    record {
      stops_fit = p.stops_fit;
      rounds = rounds_next (length s.stops) 0 s.messages m (omega arith) round p.rounds;
      bodies = all_next (λ (m : Message). is_sound_body m.body) s.messages m p.bodies sound;
      messages_fit = messages_fit;
      entries_fit = omega (arith, sum, entries_fit, none);
      few_messages = omega (arith, messages_fit, messages_at_most s.version);
      few_entries = omega (arith, sum, entries, none);
      spelled_messages = all_next is_spelled_message s.messages m p.spelled_messages spelled;
    }

stop_fits_in : (s : SoFar) (r : Fields) → IsFine record_kinds.Tim s r → IsInStep s → MessageParts s.version (s.stops ++ stop_from r ∷ []) s.messages
stop_fits_in s r f h =
    let p = messages_so_far s h in
    let ends = stop_ends s r f in
    record {
      stops_fit = stops_next s.stops (stop_from r) ends.0 ends.1 p.stops_fit;
      rounds = rounds_within (length s.stops) (length (s.stops ++ stop_from r ∷ [])) 0 s.messages (omega (arith, length-append s.stops (stop_from r ∷ []))) p.rounds;
      bodies = p.bodies;
      messages_fit = p.messages_fit;
      entries_fit = p.entries_fit;
      few_messages = p.few_messages;
      few_entries = p.few_entries;
      spelled_messages = p.spelled_messages;
    }

-- and of the version, as it has no entries
message_of_version : (s : SoFar) (m : Message) → IsInStep s → has_fit_earliest s.version m.body ≡ true → length (entries_in m.body) ≡ 0 → VersionParts s.version s.accounts s.reserves (s.messages ++ m ∷ [])
message_of_version s m h fit none =
    let v = version_so_far s h in
    record {
      known = v.known;
      few = all_next (has_few_entries s.version) s.messages m v.few (le_test (length (entries_in m.body)) (most_entries s.version) (omega (arith, none)));
      earliest = all_next (λ (m : Message). has_fit_earliest s.version m.body) s.messages m v.earliest fit;
      labels = v.labels;
      each = v.each;
      once = v.once;
    }

-- a word of a procedure that isn't C, D or E
fit_words : (a b c d e : Bool) → is_none (if e then Some procedures.E else if a then Some procedures.A else if b then Some procedures.B else if c then Some procedures.C else if d then Some procedures.D else None) ≡ false → (c || d || e) ≡ false
    → may_wait (unwrap_or (if e then Some procedures.E else if a then Some procedures.A else if b then Some procedures.B else if c then Some procedures.C else if d then Some procedures.D else None) procedures.E) ≡ true
fit_words a b true d true known early = cc
fit_words a b false true true known early = cc
fit_words a b false false true known early = cc
fit_words true b c d false known early = refl
fit_words false true c d false known early = refl
fit_words false false true d false known early = cc
fit_words false false false true false known early = cc
fit_words false false false false false known early = cc

fit_word : (word : List ℕ) → is_none (procedure_named word) ≡ false → is_never_early word ≡ false → may_wait (unwrap_or (procedure_named word) procedures.E) ≡ true
unfolding procedure_named technical_named
fit_word word known early = fit_words (bytes_eq word (codes "A")) (bytes_eq word (codes "B")) (bytes_eq word (codes "C")) (bytes_eq word (codes "D")) (bytes_eq word (codes "E")) known early

batch_word : (s : SoFar) (r : Fields) → IsFine record_kinds.Bat s r → is_none (procedure_named (field r 3)) ≡ false
unfolding has_other_word
batch_word s r f = f.words

-- a batch whose fields are right states an earliest time only in version 2, and only where its procedure may have one
never_early : (r : Fields) → has_stated_times r ≡ true → states_from r ≡ true → is_never_early (field r 3) ≡ false
unfolding has_stated_times
never_early r form states =
    let parts = and_both _ (not (states_from r && is_never_early (field r 3))) form in
    subst (λ c. (c && is_never_early (field r 3)) ≡ false) states (not_true (states_from r && is_never_early (field r 3)) parts.1)

fit_second : (r : Fields) → is_none (procedure_named (field r 3)) ≡ false → has_stated_times r ≡ true → (is_none (time_in (text_behind from_label (field r (from_place r)))) || may_wait (procedure_in r)) ≡ true
fit_second r known form = here (states_from r) refl
  where
    here : (c : Bool) → states_from r ≡ c → (is_none (time_in (if c then Some (drop (length from_label) (field r (from_place r))) else None)) || may_wait (procedure_in r)) ≡ true
    here false e = refl
    here true e = or_right (is_none (time_in (Some (drop (length from_label) (field r (from_place r)))))) (may_wait (procedure_in r)) (fit_word (field r 3) known (never_early r form e))

fit_batch : (s : SoFar) (r : Fields) → IsFine record_kinds.Bat s r → has_other_fields s.version record_kinds.Bat r ≡ false → has_fit_earliest s.version (batch_from s.version (length s.stops) [] r).body ≡ true
unfolding from_text has_other_fields
fit_batch s r f form = here (has_labels s.version) form
  where
    here : (b : Bool) → not (if b then has_stated_times r else length r == fields_in record_kinds.Bat) ≡ false
        → (is_none (time_in (if b then text_behind from_label (field r (from_place r)) else None)) || b && may_wait (procedure_in r)) ≡ true
    here true form = fit_second r (batch_word s r f) (not_false (has_stated_times r) form)
    here false form = refl

-- ---- what accounts keep

-- an account after others doesn't change what the numbers of these mean
more_at : (accounts : List AccountRecord) (a : AccountRecord) (i : ℕ) → some_passes (λ r. is_dca r.kind) (slice_get accounts i) ≡ true → some_passes (λ r. is_dca r.kind) (slice_get (accounts ++ a ∷ []) i) ≡ true
more_at [] a i h = cc
more_at (r ∷ rs) a zero h = h
more_at (r ∷ rs) a (suc i) h = more_at rs a i h

more_numbered : (accounts : List AccountRecord) (a : AccountRecord) (n : ℕ) → is_dca_number accounts n ≡ true → is_dca_number (accounts ++ a ∷ []) n ≡ true
more_numbered accounts a zero h = cc
more_numbered accounts a (suc i) h = more_at accounts a i h

each_next : (accounts : List AccountRecord) (a : AccountRecord) (xs : List Reserve) → list_all (is_sound_reserve accounts) xs ≡ true → list_all (is_sound_reserve (accounts ++ a ∷ [])) xs ≡ true
each_next accounts a [] h = refl
each_next accounts a (x ∷ xs) h =
    let both = and_both (is_sound_reserve accounts x) (list_all (is_sound_reserve accounts) xs) h in
    let own = and_both (is_dca_number accounts x.account) (nat_le (x.urgent + x.high) MAX_CENTS) both.0 in
    (λ i. more_numbered accounts a x.account own.0 i && own.1 i && each_next accounts a xs both.1 i)

account_of_version : (s : SoFar) (a : AccountRecord) → IsInStep s → VersionParts s.version (s.accounts ++ a ∷ []) s.reserves s.messages
account_of_version s a h =
    let v = version_so_far s h in
    record { known = v.known; few = v.few; earliest = v.earliest; labels = v.labels; each = each_next s.accounts a s.reserves v.each; once = v.once }

once_next : (xs : List Reserve) (x : Reserve) → list_any (λ y. nat_eq y.account x.account) xs ≡ false → are_kept_once xs ≡ true → are_kept_once (xs ++ x ∷ []) ≡ true
once_next [] x new once = refl
once_next (y ∷ ys) x new once =
    let neither = or_neither (nat_eq y.account x.account) (list_any (λ z. nat_eq z.account x.account) ys) new in
    let both = and_both (not (is_kept_among ys y)) (are_kept_once ys) once in
    let among = any_next (λ z. nat_eq y.account z.account) ys x (not_true (is_kept_among ys y) both.0) neither.0 in
    λ i. not (among i) && once_next ys x neither.1 both.1 i

-- the number of a name that is there
named_number : (test : ℕ → Bool) (o : Option ℕ) → some_passes test o ≡ true → test (unwrap_or o 0) ≡ true
named_number test None h = cc
named_number test (Some a) h = h

named_other : (found taken : ℕ → Bool) (o : Option ℕ) → some_passes found o ≡ true → some_passes taken o ≡ false → taken (unwrap_or o 0) ≡ false
named_other found taken None h k = cc
named_other found taken (Some a) h k = k

reserve_fresh : (s : SoFar) (r : Fields) → IsFine record_kinds.Res s r → list_any (λ y. nat_eq y.account (reserve_from s.accounts r).account) s.reserves ≡ false
unfolding is_kept_already
reserve_fresh s r f = named_other (is_dca_number s.accounts) (λ a. list_any (λ x. nat_eq x.account a) s.reserves) (number_named s.accounts (field r 1)) (reserve_of_dca s r f) (reserve_new s r f)

reserve_of_version : (s : SoFar) (r : Fields) → IsFine record_kinds.Res s r → IsInStep s → VersionParts s.version s.accounts (s.reserves ++ reserve_from s.accounts r ∷ []) s.messages
reserve_of_version s r f h =
    let v = version_so_far s h in
    let x : Reserve = reserve_from s.accounts r in
    let number : is_dca_number s.accounts x.account ≡ true = named_number (is_dca_number s.accounts) (number_named s.accounts (field r 1)) (reserve_of_dca s r f) in
    let small : nat_le (x.urgent + x.high) MAX_CENTS ≡ true = le_test (x.urgent + x.high) MAX_CENTS (reserve_small s r f) in
    record {
      known = v.known;
      few = v.few;
      earliest = v.earliest;
      labels = or_left (has_labels s.version) _ (reserve_labels s r f);
      each = all_next (is_sound_reserve s.accounts) s.reserves x v.each (λ i. number i && small i);
      once = once_next s.reserves x (reserve_fresh s r f) v.once;
    }

no_entries_more : (s : SoFar) (m : Message) → IsInStep s → length (entries_in m.body) ≡ 0 → s.entries ≡ sum_by (λ m. length (entries_in m.body)) (s.messages ++ m ∷ [])
no_entries_more s m h none =
    let before = h.entries in
    let sum : sum_by (λ m. length (entries_in m.body)) (s.messages ++ m ∷ []) ≡ sum_by (λ m. length (entries_in m.body)) s.messages + length (entries_in m.body) =
    sum_by-append (λ (m : Message). length (entries_in m.body)) s.messages (m ∷ []) ∙ rw (sum_one (λ (m : Message). length (entries_in m.body)) m) refl in
    omega (arith, before, sum, none)

-- one more message, without entries
in_step_message : (s : SoFar) (m : Message) (batch : Bool) → IsInStep s → m.round ≡ length s.stops → is_sound_body m.body ≡ true → has_fit_earliest s.version m.body ≡ true → is_spelled_message m ≡ true
    → length s.messages < most_messages s.version → length (entries_in m.body) ≡ 0 → (batch ≡ true → is_batch_body m.body ≡ true) → IsInStep (with_message m batch s)
in_step_message s m batch h round sound fit spelled few none is = record {
  sound = sound_on (with_message m batch s) (setup_so_far s h) (message_fits_in s m h round sound spelled few none) (message_of_version s m h fit none);
  opened = h.opened;
  entries = no_entries_more s m h none;
  batch = λ e. record { before = s.messages; last = m; split = refl; batch = is e };
  dated = h.dated;
  started = h.started;
}

entry_fits_in : (s : SoFar) (r : Fields) → IsFine record_kinds.Ent s r → IsInStep s → MessageParts s.version s.stops (with_last (with_entry (entry_from r)) s.messages)
entry_fits_in s r f h =
    let entries = h.entries in
    entry_fits s.version s.stops s.messages (entry_from r) (h.batch (entry_place s r f)) (messages_so_far s h) (entry_amount s r f) (entry_spelled s r f) (entry_few s r f) (omega (arith, entries, entry_count s r f))

entries_next : (s : SoFar) (r : Fields) → IsFine record_kinds.Ent s r → IsInStep s → s.entries + 1 ≡ sum_by (λ m. length (entries_in m.body)) (with_last (with_entry (entry_from r)) s.messages)
entries_next s r f h =
    let entries = h.entries in
    omega (arith, entries, entry_counts s.messages (entry_from r) (h.batch (entry_place s r f)))

in_step_kind : (kind : RecordKind) (s : SoFar) (r : Fields) → IsFine kind s r → has_other_fields s.version kind r ≡ false → IsInStep s → IsInStep (after_kind kind s r)
unfolding after_kind
in_step_kind record_kinds.Ver s r f form h = record {
  sound = sound_on (after_kind record_kinds.Ver s r) (setup_so_far s h)
      (in_limits s.version (version_named (field r 1)) s.stops s.messages (messages_grow s.version (version_named (field r 1)) (ver_place s r f)) (entries_grow s.version (version_named (field r 1)) (ver_place s r f)) (messages_so_far s h))
      (in_labels s.version (version_named (field r 1)) s.accounts s.reserves s.messages (named_begins (field r 1)) (version_so_far s h));
  opened = h.opened;
  entries = h.entries;
  batch = λ e. cc e;
  dated = h.dated;
  started = h.started;
}
in_step_kind record_kinds.Day s r f form h = record { sound = h.sound; opened = h.opened; entries = h.entries; batch = λ e. cc e; dated = λ e. day_date s r f; started = λ e. refl }
in_step_kind record_kinds.As s r f form h = record {
  sound = sound_on (after_kind record_kinds.As s r) (system_fits_in s r f h) (messages_so_far s h) (version_so_far s h);
  opened = h.opened;
  entries = h.entries;
  batch = λ e. cc e;
  dated = h.dated;
  started = h.started;
}
in_step_kind record_kinds.Acc s r f form h = record {
  sound = sound_on (after_kind record_kinds.Acc s r) (account_fits_in s r f h) (messages_so_far s h) (account_of_version s (account_from r) h);
  opened = opened_next s r h;
  entries = h.entries;
  batch = λ e. cc e;
  dated = h.dated;
  started = h.started;
}
in_step_kind record_kinds.Res s r f form h = record {
  sound = sound_on (after_kind record_kinds.Res s r) (setup_so_far s h) (messages_so_far s h) (reserve_of_version s r f h);
  opened = h.opened;
  entries = h.entries;
  batch = λ e. cc e;
  dated = h.dated;
  started = h.started;
}
in_step_kind record_kinds.Bat s r f form h =
    in_step_message s (batch_from s.version (length s.stops) [] r) true h refl (batch_sound s.version (length s.stops) r) (fit_batch s r f form) (batch_spelled s r f) (batch_count s r f) refl (λ e. refl)
in_step_kind record_kinds.Ent s r f form h = record {
  sound = sound_on (after_kind record_kinds.Ent s r) (setup_so_far s h) (entry_fits_in s r f h)
      (entry_of_version s.version s.accounts s.reserves s.messages (entry_from r) (h.batch (entry_place s r f)) (version_so_far s h) (entry_few s r f));
  opened = h.opened;
  entries = entries_next s r f h;
  batch = λ e. entry_ends s.messages (entry_from r) (h.batch e);
  dated = h.dated;
  started = h.started;
}
in_step_kind record_kinds.Pay s r f form h =
    in_step_message s (payment_from (length s.stops) r) false h refl (payment_amount s r f) refl (payment_spelled s r f) (payment_count s r f) refl (λ e. cc e)
in_step_kind record_kinds.Liq s r f form h =
    in_step_message s (transfer_from (length s.stops) r) false h refl (transfer_amount s r f) refl (transfer_spelled s r f) (transfer_count s r f) refl (λ e. cc e)
in_step_kind record_kinds.Obj s r f form h =
    in_step_message s (objection_from (length s.stops) r) false h refl refl refl (objection_spelled s r f) (objection_count s r f) refl (λ e. cc e)
in_step_kind record_kinds.Cnf s r f form h =
    in_step_message s (answer_from (length s.stops) r) false h refl refl refl (answer_spelled s r f) (answer_count s r f) refl (λ e. cc e)
in_step_kind record_kinds.Cyc s r f form h =
    in_step_message s (cycle_from (length s.stops) r) false h refl refl refl (cycle_spelled s r f) (cycle_count s r f) refl (λ e. cc e)
in_step_kind record_kinds.Tim s r f form h = record {
  sound = sound_on (after_kind record_kinds.Tim s r) (setup_so_far s h) (stop_fits_in s r f h) (version_so_far s h);
  opened = h.opened;
  entries = h.entries;
  batch = λ e. cc e;
  dated = h.dated;
  started = h.started;
}
in_step_kind record_kinds.End s r f form h = record {
  sound = h.sound;
  opened = h.opened;
  entries = h.entries;
  batch = λ e. cc e;
  dated = h.dated;
  started = λ e. started_as record_kinds.End s r f;
}

pub in_step_next : (s : SoFar) (r : Fields) → first_code s r ≡ None → IsInStep s → IsInStep (after s r)
in_step_next s r e h =
    let known = kind_known s r e in
    rw known.1 (in_step_kind known.0 s r (fine known.0 s r e known.1) (fine_form known.0 s r e known.1) h)

-- what was read is sound as soon as it has its own date
open_is : (date : Option CivilDay) → some_passes is_open_date date ≡ true → is_open_date (unwrap_or date no_date) ≡ true
open_is (Some date) e = e
open_is None e = cc e

pub day_sound : (s : SoFar) → IsInStep s → s.started ≡ true → is_sound (day_in s) ≡ true
day_sound s h started = h.sound (unwrap_or s.date no_date) (open_is s.date (h.dated started))
