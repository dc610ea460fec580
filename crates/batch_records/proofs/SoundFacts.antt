-- What a sound day is, part by part, and how each part goes on.
use Rattle.std.proofs.Common.{◌≡◌, ◌≤◌, ◌+◌, ◌-◌, ◌<◌, ◌^◌, ℕ, zero, suc, List, [], ◌∷◌, ◌++◌, Some, None, Bool, true, false, not, length, map, refl, ◌∙◌, arith, inl, inr, ap}
use Rattle.std.specs.Prelude.{◌==◌, ◌||◌, if◌then◌else◌, nat_eq, nat_le, nat_lt, sum_by, unwrap_or, slice_get}
use Rattle.std.specs.List.{AllByRecursion, IsDistinct, list_all, list_any}
use Rattle.std.proofs.lemmas.Bool.{eqb-true, ne_eqb}
use Rattle.std.proofs.lemmas.List.{length-map}
use Rattle.std.proofs.lemmas.Map.Steps.{length-le_from_distinct_below}
use Rattle.cash_amounts.specs.Kinds.{is_dca}
use Rattle.cash_amounts.specs.Numbers.{numbered}
use Rattle.cash_amounts.specs.Tests.{some_passes}
use Rattle.cash_amounts.specs.declared.cents.TheConstants.{MAX_CENTS}
use Rattle.cash_amounts.specs.declared.limits.TheConstants.{MAX_ENTRIES_OF_DAY, MAX_MESSAGES}
use Rattle.std.proofs.lemmas.List.Folds.{list_all-append}
use Rattle.cash_amounts.specs.SoundSetup.{accounts_are_sound, is_within_limits, sound_setup, systems_are_sound}
use Rattle.cash_amounts.specs.declared.records.AccountRecord.{AccountRecord}
use Rattle.cash_amounts.specs.declared.records.SystemRecord.{SystemRecord}
use Rattle.batch_records.specs.Counts.{record_count, one_if}
use Rattle.batch_records.specs.Made.{last_stop}
use Rattle.batch_records.specs.Sound.{are_kept_once, are_sound_reserves, entries_in, has_fit_earliest, is_dca_number, is_kept_among, is_sound_reserve, may_wait, is_open_date, is_sound, is_sound_body, is_spelled, is_spelled_account, is_spelled_system, is_spelled_message, rounds_rise, stops_rise, fits_version, has_few_entries}
use Rattle.batch_records.specs.DayRecord.{Day}
use Rattle.batch_records.specs.declared.day.Body.{Body}
use Rattle.batch_records.specs.declared.day.Body.TheVariants as body
use Rattle.batch_records.specs.declared.day.Message.{Message}
use Rattle.batch_records.specs.declared.day.Reserve.{Reserve}
use Rattle.batch_records.proofs.BoolFacts.{and_both, not_true, or_either, or_neither, or_true, le_meant, le_test, lt_meant, lt_test}
use Rattle.batch_records.proofs.VersionFacts.{entries_at_most, messages_at_most}
use Rattle.batch_records.specs.Versions.{begins_with_ver, has_labels, is_version, most_entries, most_entries_of_day, most_messages}

-- a sound setup, part by part
pub record SetupParts (accounts : List AccountRecord) (systems : List SystemRecord) : Type 0 where
  pub systems_fit : systems_are_sound [] systems ≡ true
  pub accounts_fit : accounts_are_sound systems [] accounts ≡ true
  pub few_systems : length systems ≤ 256
  pub few_accounts : length accounts ≤ 4096
  pub openings : sum_by (λ a. a.opening) accounts ≤ 10 ^ 18
  pub spelled_accounts : list_all is_spelled_account accounts ≡ true
  pub spelled_systems : list_all is_spelled_system systems ≡ true

-- sound stops and messages of a day of a version, part by part
pub record MessageParts (version : ℕ) (stops : List ℕ) (messages : List Message) : Type 0 where
  pub stops_fit : stops_rise 0 stops ≡ true
  pub rounds : rounds_rise (length stops) 0 messages ≡ true
  pub bodies : list_all (λ m. is_sound_body m.body) messages ≡ true
  pub messages_fit : length messages ≤ most_messages version
  pub entries_fit : sum_by (λ m. length (entries_in m.body)) messages ≤ most_entries_of_day version
  pub few_messages : length messages ≤ MAX_MESSAGES
  pub few_entries : sum_by (λ m. length (entries_in m.body)) messages ≤ MAX_ENTRIES_OF_DAY
  pub spelled_messages : list_all is_spelled_message messages ≡ true

-- a version, what accounts keep and messages that a day of it may have
pub record VersionParts (version : ℕ) (accounts : List AccountRecord) (reserves : List Reserve) (messages : List Message) : Type 0 where
  pub known : is_version version ≡ true
  pub few : list_all (has_few_entries version) messages ≡ true
  pub earliest : list_all (λ m. has_fit_earliest version m.body) messages ≡ true
  pub labels : (has_labels version || nat_eq (length reserves) 0) ≡ true
  pub each : list_all (is_sound_reserve accounts) reserves ≡ true
  pub once : are_kept_once reserves ≡ true

-- no version lets a batch have more than 50,000 entries, and one with labels lets it have so many
most_by : (b : Bool) → (if b then 50000 else 10000) ≤ 50000
most_by true = omega arith
most_by false = omega arith

pub most_at_most : (version : ℕ) → most_entries version ≤ 50000
most_at_most version = most_by (has_labels version)

few_in_labels : (version later : ℕ) (m : Message) → has_labels later ≡ true → has_few_entries version m ≡ true → has_few_entries later m ≡ true
few_in_labels version later m labels h =
    rw labels (le_test (length (entries_in m.body)) 50000 (omega (arith, le_meant (length (entries_in m.body)) (most_entries version) h, most_at_most version)))

all_few_in_labels : (version later : ℕ) (ms : List Message) → has_labels later ≡ true → list_all (has_few_entries version) ms ≡ true → list_all (has_few_entries later) ms ≡ true
all_few_in_labels version later [] labels h = refl
all_few_in_labels version later (m ∷ ms) labels h =
    let both = and_both (has_few_entries version m) (list_all (has_few_entries version) ms) h in
    rw (few_in_labels version later m labels both.0, all_few_in_labels version later ms labels both.1) refl

earliest_in_labels : (version later : ℕ) (b : Body) → has_labels later ≡ true → has_fit_earliest version b ≡ true → has_fit_earliest later b ≡ true
earliest_in_labels version later (body.Batch p info None till count sum entries) labels h = refl
earliest_in_labels version later (body.Batch p info (Some t) till count sum entries) labels h = rw labels (and_both (has_labels version) (may_wait p) h).1
earliest_in_labels version later (body.Pay high debit credit amount) labels h = refl
earliest_in_labels version later (body.Liquidity debit credit amount) labels h = refl
earliest_in_labels version later (body.Object system batch) labels h = refl
earliest_in_labels version later (body.Confirm batch answer) labels h = refl
earliest_in_labels version later (body.Cycle start) labels h = refl

all_earliest_in_labels : (version later : ℕ) (ms : List Message) → has_labels later ≡ true → list_all (λ m. has_fit_earliest version m.body) ms ≡ true → list_all (λ m. has_fit_earliest later m.body) ms ≡ true
all_earliest_in_labels version later [] labels h = refl
all_earliest_in_labels version later (m ∷ ms) labels h =
    let both = and_both (has_fit_earliest version m.body) (list_all (λ m. has_fit_earliest version m.body) ms) h in
    rw (earliest_in_labels version later m.body labels both.0, all_earliest_in_labels version later ms labels both.1) refl

-- what a version may have, one with labels may have as well
pub in_labels : (version later : ℕ) (accounts : List AccountRecord) (reserves : List Reserve) (messages : List Message) → has_labels later ≡ true → VersionParts version accounts reserves messages → VersionParts later accounts reserves messages
in_labels version later accounts reserves messages labels v = record {
  known = rw labels (or_true (later == 1));
  few = all_few_in_labels version later messages labels v.few;
  earliest = all_earliest_in_labels version later messages labels v.earliest;
  labels = rw labels refl;
  each = v.each;
  once = v.once;
}

-- and where its limits are no lower, so many messages and entries
pub in_limits : (version later : ℕ) (stops : List ℕ) (messages : List Message) → most_messages version ≤ most_messages later → most_entries_of_day version ≤ most_entries_of_day later
    → MessageParts version stops messages → MessageParts later stops messages
in_limits version later stops messages more_messages more_entries p =
    let messages_fit = p.messages_fit in
    let entries_fit = p.entries_fit in
    record {
      stops_fit = p.stops_fit;
      rounds = p.rounds;
      bodies = p.bodies;
      messages_fit = omega (arith, messages_fit, more_messages);
      entries_fit = omega (arith, entries_fit, more_entries);
      few_messages = p.few_messages;
      few_entries = p.few_entries;
      spelled_messages = p.spelled_messages;
    }

pub version_parts : (day : Day) → is_sound day ≡ true → VersionParts day.version day.accounts day.reserves day.messages
version_parts day h =
    let fits = (and_both _ (fits_version day) h).1 in
    let kept = and_both _ (are_sound_reserves day.accounts day.reserves) fits in
    let labels = and_both _ (has_labels day.version || nat_eq (length day.reserves) 0) kept.0 in
    let earliest = and_both _ (list_all (λ m. has_fit_earliest day.version m.body) day.messages) labels.0 in
    let both = and_both (is_version day.version) (list_all (has_few_entries day.version) day.messages) earliest.0 in
    let reserves = and_both (list_all (is_sound_reserve day.accounts) day.reserves) (are_kept_once day.reserves) kept.1 in
    record { known = both.0; few = both.1; earliest = earliest.1; labels = labels.1; each = reserves.0; once = reserves.1 }

-- ---- no more of what accounts keep than accounts

none_like : (x : Reserve) (xs : List Reserve) → list_any (λ y. nat_eq x.account y.account) xs ≡ false → AllByRecursion (λ n. nat_eq x.account n ≡ false) (map (λ y. y.account) xs)
none_like x [] e = tt
none_like x (y ∷ ys) e =
    let both = or_neither (nat_eq x.account y.account) (list_any (λ y. nat_eq x.account y.account) ys) e in
    (both.0, none_like x ys both.1)

kept_distinct : (xs : List Reserve) → are_kept_once xs ≡ true → IsDistinct nat_eq (map (λ x. x.account) xs)
unfolding IsDistinct
kept_distinct [] h = tt
kept_distinct (x ∷ xs) h =
    let both = and_both (not (is_kept_among xs x)) (are_kept_once xs) h in
    (none_like x xs (not_true (is_kept_among xs x) both.0), kept_distinct xs both.1)

numbered_within : {X : Type 0} (xs : List X) (a : ℕ) (p : X → Bool) → some_passes p (numbered xs a) ≡ true → a ≤ length xs
numbered_within [] zero p h = cc h
numbered_within [] (suc a) p h = cc h
numbered_within (x ∷ xs) zero p h = cc h
numbered_within (x ∷ xs) (suc zero) p h = omega arith
numbered_within (x ∷ xs) (suc (suc a)) p h = let rest = numbered_within xs (suc a) p h in omega (arith, rest)

kept_within : (accounts : List AccountRecord) (xs : List Reserve) (q : ℕ) → list_all (is_sound_reserve accounts) xs ≡ true → list_any (nat_eq q) (map (λ x. x.account) xs) ≡ true → q < length accounts + 1
kept_within accounts [] q each h = cc h
kept_within accounts (x ∷ xs) q each h =
    let both = and_both (is_sound_reserve accounts x) (list_all (is_sound_reserve accounts) xs) each in
    let own = and_both (is_dca_number accounts x.account) (nat_le (x.urgent + x.high) MAX_CENTS) both.0 in
    elim (or_either (nat_eq q x.account) (list_any (nat_eq q) (map (λ x. x.account) xs)) h) [
      | inl e ↦ let low = numbered_within accounts x.account (λ r. is_dca r.kind) own.0 in let same = eqb-true q x.account e in omega (arith, low, same)
      | inr rest ↦ kept_within accounts xs q both.1 rest
    ]

-- no number of an account is 0
not_zero : (accounts : List AccountRecord) (a : ℕ) → is_dca_number accounts a ≡ true → nat_eq 0 a ≡ false
not_zero accounts zero h = cc h
not_zero accounts (suc a) h = ne_eqb 0 (suc a) (λ e. omega (arith, e))

none_zero : (accounts : List AccountRecord) (xs : List Reserve) → list_all (is_sound_reserve accounts) xs ≡ true → AllByRecursion (λ n. nat_eq 0 n ≡ false) (map (λ x. x.account) xs)
none_zero accounts [] each = tt
none_zero accounts (x ∷ xs) each =
    let both = and_both (is_sound_reserve accounts x) (list_all (is_sound_reserve accounts) xs) each in
    let own = and_both (is_dca_number accounts x.account) (nat_le (x.urgent + x.high) MAX_CENTS) both.0 in
    (not_zero accounts x.account own.0, none_zero accounts xs both.1)

pub few_reserves : (accounts : List AccountRecord) (xs : List Reserve) → list_all (is_sound_reserve accounts) xs ≡ true → are_kept_once xs ≡ true → length xs ≤ length accounts
unfolding IsDistinct
few_reserves accounts xs each once =
    let numbers = map (λ (x : Reserve). x.account) xs in
    let few = length-le_from_distinct_below (0 ∷ numbers) (length accounts + 1) (none_zero accounts xs each, kept_distinct xs once) (λ q m. elim (or_either (nat_eq q 0) (list_any (nat_eq q) numbers) m) [
      | inl e ↦ let none = eqb-true q 0 e in omega (arith, none)
      | inr rest ↦ kept_within accounts xs q each rest
    ]) in
    let long = length-map xs (λ (x : Reserve). x.account) in
    omega (arith, few, long)

pub setup_parts : (day : Day) → is_sound day ≡ true → SetupParts day.accounts day.systems
setup_parts day h =
    let g = and_both _ (fits_version day) h in
    let f = and_both _ (is_spelled day) g.0 in
    let spelled = and_both _ (list_all is_spelled_message day.messages) f.1 in
    let spelled_setup = and_both _ (list_all is_spelled_system day.systems) spelled.0 in
    let dated = and_both (is_open_date day.date) (list_all is_spelled_account day.accounts) spelled_setup.0 in
    let e = and_both _ (nat_le (sum_by (λ m. length (entries_in m.body)) day.messages) (most_entries_of_day day.version)) f.0 in
    let d = and_both _ (nat_le (length day.messages) (most_messages day.version)) e.0 in
    let c = and_both _ (list_all (λ m. is_sound_body m.body) day.messages) d.0 in
    let b = and_both _ (rounds_rise (length day.stops) 0 day.messages) c.0 in
    let a = and_both (sound_setup day.accounts day.systems) (stops_rise 0 day.stops) b.0 in
    let setup = and_both _ (is_within_limits day.accounts day.systems) a.0 in
    let names = and_both (systems_are_sound [] day.systems) (accounts_are_sound day.systems [] day.accounts) setup.0 in
    let sums = and_both _ (nat_le (sum_by (λ a. a.opening) day.accounts) (10 ^ 18)) setup.1 in
    let lengths = and_both (nat_le (length day.systems) 256) (nat_le (length day.accounts) 4096) sums.0 in
    record {
      systems_fit = names.0;
      accounts_fit = names.1;
      few_systems = le_meant _ _ lengths.0;
      few_accounts = le_meant _ _ lengths.1;
      openings = le_meant _ _ sums.1;
      spelled_accounts = dated.1;
      spelled_systems = spelled_setup.1;
    }

pub message_parts : (day : Day) → is_sound day ≡ true → MessageParts day.version day.stops day.messages
message_parts day h =
    let g = and_both _ (fits_version day) h in
    let f = and_both _ (is_spelled day) g.0 in
    let spelled = and_both _ (list_all is_spelled_message day.messages) f.1 in
    let e = and_both _ (nat_le (sum_by (λ m. length (entries_in m.body)) day.messages) (most_entries_of_day day.version)) f.0 in
    let d = and_both _ (nat_le (length day.messages) (most_messages day.version)) e.0 in
    let c = and_both _ (list_all (λ m. is_sound_body m.body) day.messages) d.0 in
    let b = and_both _ (rounds_rise (length day.stops) 0 day.messages) c.0 in
    let a = and_both (sound_setup day.accounts day.systems) (stops_rise 0 day.stops) b.0 in
    let messages_fit = le_meant (length day.messages) (most_messages day.version) d.1 in
    let entries_fit = le_meant (sum_by (λ m. length (entries_in m.body)) day.messages) (most_entries_of_day day.version) e.1 in
    record {
      stops_fit = a.1;
      rounds = b.1;
      bodies = c.1;
      messages_fit = messages_fit;
      entries_fit = entries_fit;
      few_messages = omega (arith, messages_fit, messages_at_most day.version);
      few_entries = omega (arith, entries_fit, entries_at_most day.version);
      spelled_messages = spelled.1;
    }

pub sound_whole : (day : Day) → is_open_date day.date ≡ true → SetupParts day.accounts day.systems → MessageParts day.version day.stops day.messages → VersionParts day.version day.accounts day.reserves day.messages → is_sound day ≡ true
sound_whole day dated p q v =
    rw (
      p.systems_fit,
      p.accounts_fit,
      le_test (length day.systems) 256 p.few_systems,
      le_test (length day.accounts) 4096 p.few_accounts,
      le_test (sum_by (λ a. a.opening) day.accounts) (10 ^ 18) p.openings,
      q.stops_fit,
      q.rounds,
      q.bodies,
      le_test (length day.messages) (most_messages day.version) q.messages_fit,
      le_test (sum_by (λ m. length (entries_in m.body)) day.messages) (most_entries_of_day day.version) q.entries_fit,
      dated,
      p.spelled_accounts,
      p.spelled_systems,
      q.spelled_messages,
      v.known,
      v.few,
      v.earliest,
      v.labels,
      v.each,
      v.once,
    ) refl

-- no more stops than seconds
stops_few : (before : ℕ) (stops : List ℕ) → before ≤ 86400 → stops_rise before stops ≡ true → before + length stops ≤ 86400
stops_few before [] low h = omega arith
stops_few before (stop ∷ stops) low h =
    let more = and_both _ (stops_rise stop stops) h in
    let ends = and_both (nat_lt before stop) (nat_lt stop 86400) more.0 in
    let above = lt_meant before stop ends.0 in
    let below = lt_meant stop 86400 ends.1 in
    let rest = stops_few stop stops (omega arith) more.1 in
    omega arith

pub few_stops : (stops : List ℕ) → stops_rise 0 stops ≡ true → length stops ≤ 86400
few_stops stops h = let few = stops_few 0 stops (omega arith) h in omega arith

-- the last of some stops, and what was before them where there is none
last_from : ℕ → List ℕ → ℕ
last_from before [] = before
last_from before (stop ∷ stops) = last_from stop stops

last_is : (before : ℕ) (stop : ℕ) (stops : List ℕ) → unwrap_or (slice_get (stop ∷ stops) (length stops)) before ≡ last_from stop stops
unfolding last_from
last_is before stop [] = refl
last_is before stop (next ∷ stops) = last_is before next stops

last_stop_is : (stops : List ℕ) → last_stop stops ≡ last_from 0 stops
unfolding last_from
last_stop_is [] = refl
last_stop_is (stop ∷ stops) = let back : suc (length stops) - 1 ≡ length stops = omega arith in rw back (last_is 0 stop stops)

stops_next_from : (before : ℕ) (stops : List ℕ) (t : ℕ) → last_from before stops < t → t < 86400 → stops_rise before stops ≡ true → stops_rise before (stops ++ t ∷ []) ≡ true
unfolding last_from
stops_next_from before [] t above below h = rw (lt_test before t above, lt_test t 86400 below) refl
stops_next_from before (stop ∷ stops) t above below h =
    let rest = and_both _ (stops_rise stop stops) h in
    rw (rest.0, stops_next_from stop stops t above below rest.1) refl

-- one more stop
pub stops_next : (stops : List ℕ) (t : ℕ) → last_stop stops < t → t < 86400 → stops_rise 0 stops ≡ true → stops_rise 0 (stops ++ t ∷ []) ≡ true
stops_next stops t above below h = stops_next_from 0 stops t (rw last_stop_is at above) below h

-- the rounds stay within more stops
pub rounds_within : (last more before : ℕ) (ms : List Message) → last ≤ more → rounds_rise last before ms ≡ true → rounds_rise more before ms ≡ true
rounds_within last more before [] le h = refl
rounds_within last more before (m ∷ ms) le h =
    let rest = and_both _ (rounds_rise last m.round ms) h in
    let ends = and_both (nat_le before m.round) (nat_le m.round last) rest.0 in
    let within = le_meant m.round last ends.1 in
    rw (ends.0, le_test m.round more (omega arith), rounds_within last more m.round ms le rest.1) refl

-- one more message of the last round
pub rounds_next : (last before : ℕ) (ms : List Message) (m : Message) → before ≤ last → m.round ≡ last → rounds_rise last before ms ≡ true → rounds_rise last before (ms ++ m ∷ []) ≡ true
rounds_next last before [] m le is h = rw (is, le_test before last le, le_test last last (omega arith)) refl
rounds_next last before (x ∷ xs) m le is h =
    let rest = and_both _ (rounds_rise last x.round xs) h in
    let ends = and_both (nat_le before x.round) (nat_le x.round last) rest.0 in
    rw (ends.0, ends.1, rounds_next last x.round xs m (le_meant x.round last ends.1) is rest.1) refl

pub all_next : {X : Type 0} (p : X → Bool) (xs : List X) (y : X) → list_all p xs ≡ true → p y ≡ true → list_all p (xs ++ y ∷ []) ≡ true
all_next p xs y all here = list_all-append p xs (y ∷ []) ∙ rw (all, here) refl

pub any_next : {X : Type 0} (p : X → Bool) (xs : List X) (y : X) → list_any p xs ≡ false → p y ≡ false → list_any p (xs ++ y ∷ []) ≡ false
any_next p [] y h k = ap (λ b. b || false) k
any_next p (x ∷ xs) y h k = let neither = or_neither (p x) (list_any p xs) h in λ i. neither.0 i || any_next p xs y neither.1 k i

pub at_most_one : (b : Bool) → one_if b ≤ 1
at_most_one true = omega arith
at_most_one false = omega arith

-- fewer records than a number of 32 bits counts
pub few_records_in : (day : Day) → is_sound day ≡ true → record_count day < MAX_MESSAGES + MAX_ENTRIES_OF_DAY + 100000
few_records_in day h =
    let setup = setup_parts day h in
    let rest = message_parts day h in
    let v = version_parts day h in
    omega (arith, few_reserves day.accounts day.reserves v.each v.once, few_stops day.stops rest.stops_fit, setup.few_systems, setup.few_accounts, rest.few_messages, rest.few_entries, at_most_one (begins_with_ver day.version))
