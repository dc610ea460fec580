-- A sound day meets the rules, and every day that reading gives does.
use Rattle.std.proofs.Common.{◌≡◌, ◌≤◌, ◌+◌, ◌^◌, ℕ, List, [], ◌∷◌, ◌++◌, Option, Some, None, Bool, true, false, not, length, map, refl, ap, sym, subst, arith, append_assoc, ◌∙◌}
use Rattle.std.specs.Prelude.{Ok, ◌==◌, ◌&&◌, ◌||◌, filter_map, if◌then◌else◌, is_none, is_some, nat_eq, nat_le, nat_lt, sum_by, ◌↔◌}
use Rattle.std.specs.List.{cons_option, list_all, list_any}
use Rattle.std.specs.Option.{option_map_or}
use Rattle.std.proofs.lemmas.List.Sums.{sum_by-cons}
use Rattle.cash_amounts.specs.Kinds.{is_dca}
use Rattle.cash_amounts.specs.Names.{is_id, is_name}
use Rattle.cash_amounts.specs.Numbers.{numbered}
use Rattle.cash_amounts.specs.SoundSetup.{accounts_are_sound, fits, is_listed, is_name_twice, is_role_twice, is_system_name, links_to, owns_dca}
use Rattle.cash_amounts.specs.Tests.{some_passes}
use Rattle.cash_amounts.specs.declared.cents.TheConstants.{MAX_CENTS}
use Rattle.cash_amounts.specs.declared.records.AccountKind.{AccountKind}
use Rattle.cash_amounts.specs.declared.records.AccountKind.TheVariants as account_kinds
use Rattle.cash_amounts.specs.declared.records.AccountRecord.{AccountRecord}
use Rattle.cash_amounts.specs.declared.records.Procedure.{Procedure}
use Rattle.cash_amounts.specs.declared.records.Procedure.TheVariants as procedures
use Rattle.cash_amounts.specs.declared.records.SystemRecord.{SystemRecord}
use Rattle.batch_records.specs.DayPart.{day_len}
use Rattle.batch_records.specs.Days.{bad_records, day_of_bytes, faults_of, missing_end, unless_bad}
use Rattle.batch_records.specs.DayAnswers.{day_of}
use Rattle.batch_records.specs.DayTexts.{account_record, day_record, end_record, inner_records, moment_records, reserve_record, system_record, written_records, version_records}
use Rattle.batch_records.specs.Kinds.{kind_of}
use Rattle.batch_records.specs.Made.{day_made, is_end, so_far_of, system_in, system_of, systems_of}
use Rattle.batch_records.specs.Meets.{MeetsRules, are_own_links, has_own_links, has_own_times, has_times, has_typed_body, is_cents, is_time, is_typed, migrated}
use Rattle.batch_records.specs.Records.{Fields, day_records}
use Rattle.batch_records.specs.Sound.{is_amount, is_open_date, is_sound, is_sound_body, is_spelled, is_spelled_account, is_spelled_body, is_spelled_entry, is_spelled_message, is_spelled_system, are_times, has_fit_earliest, is_account_number, is_dca_number, is_sound_reserve, lists_some, stops_rise, fits_version}
use Rattle.batch_records.specs.Words.{listed}
use Rattle.batch_records.specs.declared.day.Body.{Body}
use Rattle.batch_records.specs.declared.day.Body.TheVariants as body
use Rattle.batch_records.specs.DayRecord.{Day, no_room}
use Rattle.batch_records.specs.declared.day.DayCode.{DayCode}
use Rattle.batch_records.specs.declared.day.DayCode.TheVariants as day_codes
use Rattle.batch_records.specs.declared.day.Entry.{Entry}
use Rattle.batch_records.specs.declared.day.Message.{Message}
use Rattle.batch_records.specs.declared.day.Reserve.{Reserve}
use Rattle.batch_records.specs.declared.kinds.RecordKind.{RecordKind}
use Rattle.batch_records.specs.declared.kinds.RecordKind.TheVariants as record_kinds
use Rattle.batch_records.proofs.BoolFacts.{and_both, le_meant, le_test, lt_meant, lt_test}
use Rattle.batch_records.proofs.BatchFields.{fit_parts}
use Rattle.batch_records.proofs.JudgeFacts.{bad_none}
use Rattle.batch_records.proofs.KeptDay.{IsKept, is_kept_account, is_kept_body, is_kept_entry, is_kept_link, is_kept_message, is_kept_system}
use Rattle.batch_records.proofs.KeptFacts.{day_sound, in_step_first}
use Rattle.batch_records.proofs.MadeBack.{day_back}
use Rattle.batch_records.proofs.MeetsFacts.{meets_kept, in_step_all, last_none}
use Rattle.batch_records.proofs.ReserveNames.{reserves_kept}
use Rattle.batch_records.proofs.MessageRuns.{moments_run}
use Rattle.batch_records.proofs.RunFacts.{RunsTo, runs_fine, runs_then, state}
use Rattle.batch_records.proofs.RoundTrip.{has_end}
use Rattle.batch_records.proofs.SetupRuns.{accounts_run, new_behind_none, reserves_run, systems_run, head_run}
use Rattle.batch_records.proofs.SoundFacts.{MessageParts, SetupParts, message_parts, setup_parts, VersionParts, in_labels, in_limits, sound_whole, version_parts}
use Rattle.batch_records.proofs.VersionFacts.{migrated_labels, migrated_limits}

-- ---- the records of a sound day are fine

written_fine : (day : Day) → IsKept day → SetupParts day.accounts day.systems → MessageParts day.version day.stops day.messages → VersionParts day.version day.accounts day.reserves day.messages → bad_records (written_records day) ≡ []
unfolding written_records inner_records
written_fine day kept p q v =
    let version = day.version in
    let head = version_records version ++ day_record day.date ∷ [] in
    let systems = map system_record day.systems in
    let accounts = map account_record day.accounts in
    let moments = moment_records version day.stops 0 day.messages in
    let few_systems = p.few_systems in
    let few_accounts = p.few_accounts in
    let openings = p.openings in
    let h = head_run version day.date kept.version kept.date in
    let s = systems_run version day.date [] [] day.systems (λ p. refl) p.systems_fit kept.systems p.spelled_systems (omega arith) in
    let a = accounts_run version day.date day.systems [] [] day.accounts 0 (λ p. refl) p.accounts_fit kept.accounts (omega arith) (omega arith) in
    let few = q.messages_fit in
    let entries = q.entries_fit in
    let r = reserves_run version day.date day.accounts day.systems a.0 [] day.reserves v.labels v.each v.once (new_behind_none day.reserves) kept.reserves in
    let m = moments_run version day.date day.accounts day.systems day.reserves day.stops 0 day.messages [] [] a.0 false false 0 refl q.stops_fit q.rounds kept.messages q.bodies v.few v.earliest (omega arith) (omega arith) in
    let reserves = map (reserve_record day.accounts) day.reserves in
    let tail = end_record ∷ [] in
    let inner : (systems ++ (accounts ++ (reserves ++ moments))) ++ tail ≡ systems ++ (accounts ++ (reserves ++ (moments ++ tail))) =
    append_assoc systems (accounts ++ (reserves ++ moments)) tail
    ∙ ap (λ (rows : List Fields). systems ++ rows) (append_assoc accounts (reserves ++ moments) tail ∙ ap (λ (rows : List Fields). accounts ++ rows) (append_assoc reserves moments tail)) in
    let grouped : version_records version ++ day_record day.date ∷ ((systems ++ (accounts ++ (reserves ++ moments))) ++ tail) ≡ head ++ (systems ++ (accounts ++ (reserves ++ (moments ++ tail)))) =
    ap (λ (rows : List Fields). version_records version ++ day_record day.date ∷ rows) inner
    ∙ sym (append_assoc (version_records version) (day_record day.date ∷ []) (systems ++ (accounts ++ (reserves ++ (moments ++ tail))))) in
    let first = state version day.date [] [] [] [] [] 0 false false 0 in
    let second = state version day.date [] day.systems [] [] [] 0 false false 0 in
    let third = state version day.date day.accounts day.systems [] [] [] a.0 false false 0 in
    let fourth = state version day.date day.accounts day.systems day.reserves [] [] a.0 false false 0 in
    let run : RunsTo first (systems ++ (accounts ++ (reserves ++ (moments ++ tail)))) m.0 =
    runs_then first second m.0 systems (accounts ++ (reserves ++ (moments ++ tail))) s
    (runs_then second third m.0 accounts (reserves ++ (moments ++ tail)) a.1 (runs_then third fourth m.0 reserves (moments ++ tail) r m.1)) in
    rw grouped (runs_fine [] (head ++ (systems ++ (accounts ++ (reserves ++ (moments ++ tail))))) (so_far_of []) m.0 bad_none refl
    (runs_then (so_far_of []) first m.0 head (systems ++ (accounts ++ (reserves ++ (moments ++ tail)))) h run))

-- ---- a sound day's values are of their types, and kept

open_of : (day : Day) → is_sound day ≡ true → is_open_date day.date ≡ true
open_of day h =
    let f = and_both _ (is_spelled day) (and_both _ (fits_version day) h).0 in
    let spelled = and_both _ (list_all is_spelled_message day.messages) f.1 in
    let setup = and_both _ (list_all is_spelled_system day.systems) spelled.0 in
    (and_both (is_open_date day.date) (list_all is_spelled_account day.accounts) setup.0).0

openings_each : (xs : List AccountRecord) → sum_by (λ a. a.opening) xs ≤ MAX_CENTS → list_all (λ a. is_cents a.opening) xs ≡ true
openings_each [] h = refl
openings_each (a ∷ xs) h =
    let total = sum_by-cons (λ (a : AccountRecord). a.opening) a xs in
    rw (le_test a.opening MAX_CENTS (omega arith), openings_each xs (omega arith)) refl

cents_of_amount : (n : ℕ) → is_amount n ≡ true → is_cents n ≡ true
cents_of_amount n h = let small = lt_meant n (10 ^ 13) (and_both (nat_lt 0 n) (nat_lt n (10 ^ 13)) h).1 in le_test n MAX_CENTS (omega arith)

all_each : {X : Type 0} (p q : X → Bool) → ((x : X) → p x ≡ true → q x ≡ true) → (xs : List X) → list_all p xs ≡ true → list_all q xs ≡ true
all_each p q h [] all = refl
all_each p q h (x ∷ xs) all = let both = and_both (p x) (list_all p xs) all in rw (h x both.0, all_each p q h xs both.1) refl

all_each_two : {X : Type 0} (p q r : X → Bool) → ((x : X) → p x ≡ true → q x ≡ true → r x ≡ true) → (xs : List X) → list_all p xs ≡ true → list_all q xs ≡ true → list_all r xs ≡ true
all_each_two p q r h [] a b = refl
all_each_two p q r h (x ∷ xs) a b =
    let first = and_both (p x) (list_all p xs) a in
    let second = and_both (q x) (list_all q xs) b in
    rw (h x first.0 second.0, all_each_two p q r h xs first.1 second.1) refl

typed_body : (b : Body) → is_sound_body b ≡ true → is_spelled_body b ≡ true → has_typed_body b ≡ true
typed_body (body.Batch p info early till count sum entries) sound spelled =
    let amounts = and_both (are_times info early till && nat_le sum (10 ^ 18) && nat_le (length entries) 50000) (list_all (λ e. is_amount e.amount) entries) sound in
    let long = and_both (are_times info early till && nat_le sum (10 ^ 18)) (nat_le (length entries) 50000) amounts.0 in
    let total = and_both (are_times info early till) (nat_le sum (10 ^ 18)) long.0 in
    let few = lt_meant count (10 ^ 7) (and_both (nat_lt count (10 ^ 7)) (list_all is_spelled_entry entries) spelled).0 in
    rw (lt_test count (2 ^ 32) (omega arith), total.1, all_each (λ (e : Entry). is_amount e.amount) (λ e. is_cents e.amount) (λ e h. cents_of_amount e.amount h) entries amounts.1) refl
typed_body (body.Pay high debit credit amount) sound spelled = cents_of_amount amount sound
typed_body (body.Liquidity debit credit amount) sound spelled = cents_of_amount amount sound
typed_body (body.Object system batch) sound spelled = refl
typed_body (body.Confirm batch answer) sound spelled = refl
typed_body (body.Cycle start) sound spelled = refl

timed_body : (b : Body) → is_sound_body b ≡ true → has_times b ≡ true
timed_body (body.Batch p info early till count sum entries) sound =
    let amounts = and_both (are_times info early till && nat_le sum (10 ^ 18) && nat_le (length entries) 50000) (list_all (λ e. is_amount e.amount) entries) sound in
    let long = and_both (are_times info early till && nat_le sum (10 ^ 18)) (nat_le (length entries) 50000) amounts.0 in
    (and_both (are_times info early till) (nat_le sum (10 ^ 18)) long.0).0
timed_body (body.Pay high debit credit amount) sound = refl
timed_body (body.Liquidity debit credit amount) sound = refl
timed_body (body.Object system batch) sound = refl
timed_body (body.Confirm batch answer) sound = refl
timed_body (body.Cycle start) sound = refl

kept_entry : (e : Entry) → is_spelled_entry e ≡ true → is_amount e.amount ≡ true → is_kept_entry e ≡ true
kept_entry e spelled amount = let names = and_both (is_name e.debit) (is_name e.credit) spelled in rw (names.0, names.1, cents_of_amount e.amount amount) refl

kept_body : (b : Body) → is_sound_body b ≡ true → is_spelled_body b ≡ true → is_kept_body b ≡ true
kept_body (body.Batch p info early till count sum entries) sound spelled =
    let amounts = and_both (are_times info early till && nat_le sum (10 ^ 18) && nat_le (length entries) 50000) (list_all (λ e. is_amount e.amount) entries) sound in
    let long = and_both (are_times info early till && nat_le sum (10 ^ 18)) (nat_le (length entries) 50000) amounts.0 in
    let total = and_both (are_times info early till) (nat_le sum (10 ^ 18)) long.0 in
    let texts = and_both (nat_lt count (10 ^ 7)) (list_all is_spelled_entry entries) spelled in
    rw (total.0, texts.0, total.1, all_each_two is_spelled_entry (λ (e : Entry). is_amount e.amount) is_kept_entry kept_entry entries texts.1 amounts.1) refl
kept_body (body.Pay high debit credit amount) sound spelled = let names = and_both (is_name debit) (is_name credit) spelled in rw (names.0, names.1, cents_of_amount amount sound) refl
kept_body (body.Liquidity debit credit amount) sound spelled = let names = and_both (is_name debit) (is_name credit) spelled in rw (names.0, names.1, cents_of_amount amount sound) refl
kept_body (body.Object system batch) sound spelled = spelled
kept_body (body.Confirm batch answer) sound spelled = spelled
kept_body (body.Cycle start) sound spelled = refl

kept_message : (m : Message) → is_sound_body m.body ≡ true → is_spelled_message m ≡ true → is_kept_message m ≡ true
kept_message m sound spelled =
    let both = and_both (is_name m.sender && is_id m.id) (is_spelled_body m.body) spelled in
    rw (both.0, kept_body m.body sound both.1) refl

none_is : {X : Type 0} (o : Option X) → is_none o ≡ true → o ≡ None
none_is None e = refl
none_is (Some x) e = cc e

sub_link : (systems : List SystemRecord) (system : Option (List ℕ)) → links_to systems system ≡ true → (is_none system || some_passes is_name system) ≡ true → is_kept_link account_kinds.Sub system None ≡ true
sub_link systems None linked spelled = cc linked
sub_link systems (Some system) linked spelled = spelled

tech_link : (systems : List SystemRecord) (owner : List ℕ) (p : Option Procedure) → is_listed systems owner p ≡ true → is_kept_link account_kinds.Tech None p ≡ true
tech_link systems owner None listed = cc listed
tech_link systems owner (Some procedures.A) listed = refl
tech_link systems owner (Some procedures.B) listed = refl
tech_link systems owner (Some procedures.C) listed = refl
tech_link systems owner (Some procedures.D) listed = refl
tech_link systems owner (Some procedures.E) listed = cc listed

link_of_fit : (kind : AccountKind) (systems : List SystemRecord) (before : List AccountRecord) (a : AccountRecord) → fits kind systems before a ≡ true → (is_none a.system || some_passes is_name a.system) ≡ true
    → (is_kept_link kind a.system a.procedure ≡ true) × (are_own_links kind a.system a.procedure ≡ true)
link_of_fit account_kinds.Dca systems before a fit spelled =
    let both = and_both (is_none a.system && is_none a.procedure) (not (is_system_name systems a.owner)) fit in
    let none = and_both (is_none a.system) (is_none a.procedure) both.0 in
    rw (none_is a.system none.0, none_is a.procedure none.1) (refl, refl)
link_of_fit account_kinds.Fund systems before a fit spelled =
    let both = and_both (is_none a.system && is_none a.procedure) (is_system_name systems a.owner) fit in
    let none = and_both (is_none a.system) (is_none a.procedure) both.0 in
    rw (none_is a.system none.0, none_is a.procedure none.1) (refl, refl)
link_of_fit account_kinds.Sub systems before a fit spelled =
    let opens = and_both _ (nat_eq a.opening 0) fit in
    let plain = and_both _ (is_none a.procedure) opens.0 in
    let linked = and_both (owns_dca before a.owner) (links_to systems a.system) plain.0 in
    rw (none_is a.procedure plain.1) (sub_link systems a.system linked.1 spelled, refl)
link_of_fit account_kinds.Tech systems before a fit spelled =
    let opens = and_both _ (nat_eq a.opening 0) fit in
    let listed = and_both (is_none a.system) (is_listed systems a.owner a.procedure) opens.0 in
    rw (none_is a.system listed.0) (tech_link systems a.owner a.procedure listed.1, refl)

-- the accounts of a sound setup are kept, and have links of their own
accounts_kept : (systems : List SystemRecord) (before xs : List AccountRecord) → accounts_are_sound systems before xs ≡ true → list_all is_spelled_account xs ≡ true → list_all (λ a. is_cents a.opening) xs ≡ true
    → (list_all is_kept_account xs ≡ true) × (list_all has_own_links xs ≡ true)
accounts_kept systems before [] sound spelled cents = (refl, refl)
accounts_kept systems before (a ∷ xs) sound spelled cents =
    let rest = and_both _ (accounts_are_sound systems (a ∷ before) xs) sound in
    let fit = and_both (not (is_name_twice before a) && not (is_role_twice a.kind a.procedure before a)) (fits a.kind systems before a) rest.0 in
    let texts = and_both (is_spelled_account a) (list_all is_spelled_account xs) spelled in
    let own = and_both (is_name a.name && is_name a.owner) (is_none a.system || some_passes is_name a.system) texts.0 in
    let small = and_both (is_cents a.opening) (list_all (λ a. is_cents a.opening) xs) cents in
    let link = link_of_fit a.kind systems before a fit.1 own.1 in
    let more = accounts_kept systems (a ∷ before) xs rest.1 texts.1 small.1 in
    (rw (own.0, small.0, link.0, more.0) refl, rw (link.1, more.1) refl)

times_of : (before : ℕ) (stops : List ℕ) → stops_rise before stops ≡ true → list_all is_time stops ≡ true
times_of before [] h = refl
times_of before (stop ∷ stops) h =
    let rest = and_both (nat_lt before stop && nat_lt stop 86400) (stops_rise stop stops) h in
    let below = lt_meant stop 86400 (and_both (nat_lt before stop) (nat_lt stop 86400) rest.0).1 in
    rw (le_test stop 86400 (omega arith), times_of stop stops rest.1) refl

abbrev pub five_letters : List SystemRecord → Bool
five_letters systems = list_all (λ s. length s.procedures == 5) systems

kept_system : (s : SystemRecord) → is_spelled_system s ≡ true → (length s.procedures == 5) ≡ true → is_kept_system s ≡ true
kept_system s spelled five = rw ((and_both (is_name s.name) (lists_some s) spelled).0, five) refl

typed_message : (m : Message) → is_sound_body m.body ≡ true → is_spelled_message m ≡ true → has_typed_body m.body ≡ true
typed_message m sound spelled = typed_body m.body sound (and_both (is_name m.sender && is_id m.id) (is_spelled_body m.body) spelled).1

own_times : (version : ℕ) (b : Body) → has_fit_earliest version b ≡ true → has_own_times version b ≡ true
own_times version (body.Batch p info early till count sum entries) h = (fit_parts version p early h).1
own_times version (body.Pay high debit credit amount) h = refl
own_times version (body.Liquidity debit credit amount) h = refl
own_times version (body.Object system batch) h = refl
own_times version (body.Confirm batch answer) h = refl
own_times version (body.Cycle start) h = refl

reserve_cents : (accounts : List AccountRecord) (xs : List Reserve) → list_all (is_sound_reserve accounts) xs ≡ true → list_all (λ x. is_cents x.urgent && is_cents x.high) xs ≡ true
reserve_cents accounts [] h = refl
reserve_cents accounts (x ∷ xs) h =
    let both = and_both (is_sound_reserve accounts x) (list_all (is_sound_reserve accounts) xs) h in
    let sum = le_meant (x.urgent + x.high) MAX_CENTS (and_both (is_dca_number accounts x.account) (nat_le (x.urgent + x.high) MAX_CENTS) both.0).1 in
    rw (le_test x.urgent MAX_CENTS (omega (arith, sum)), le_test x.high MAX_CENTS (omega (arith, sum)), reserve_cents accounts xs both.1) refl

there : {X : Type 0} (o : Option X) (p : X → Bool) → some_passes p o ≡ true → is_some o ≡ true
there None p h = cc h
there (Some x) p h = refl

number_there : (accounts : List AccountRecord) (x : Reserve) → is_sound_reserve accounts x ≡ true → is_account_number accounts x.account ≡ true
number_there accounts x h = there (numbered accounts x.account) (λ r. is_dca r.kind) (and_both (is_dca_number accounts x.account) (nat_le (x.urgent + x.high) MAX_CENTS) h).0

-- a sound day meets the rules
pub sound_meets : (day : Day) → is_sound day ≡ true → five_letters day.systems ≡ true → day.room ≡ no_room → MeetsRules day
sound_meets day h five room =
    let p = setup_parts day h in
    let q = message_parts day h in
    let v = version_parts day h in
    let opened = p.openings in
    let cents = openings_each day.accounts (omega arith) in
    let accounts = accounts_kept day.systems [] day.accounts p.accounts_fit p.spelled_accounts cents in
    let stops = times_of 0 day.stops q.stops_fit in
    let kept : IsKept day = record {
      version = v.known;
      date = open_of day h;
      systems = all_each_two is_spelled_system (λ (s : SystemRecord). length s.procedures == 5) is_kept_system kept_system day.systems p.spelled_systems five;
      accounts = accounts.0;
      reserves = reserves_kept day.systems day.accounts day.reserves p.accounts_fit p.spelled_accounts (all_each (is_sound_reserve day.accounts) (λ x. is_account_number day.accounts x.account) (λ x sound. number_there day.accounts x sound) day.reserves v.each) (reserve_cents day.accounts day.reserves v.each);
      earliest = all_each (λ (m : Message). has_fit_earliest day.version m.body) (λ m. has_own_times day.version m.body) (λ m fit. own_times day.version m.body fit) day.messages v.earliest;
      stops = stops;
      messages = all_each_two (λ (m : Message). is_sound_body m.body) is_spelled_message is_kept_message kept_message day.messages q.bodies q.spelled_messages;
      rounds = q.rounds;
      room = room;
    } in
    let bodies = all_each_two (λ (m : Message). is_sound_body m.body) is_spelled_message (λ m. has_typed_body m.body) typed_message day.messages q.bodies q.spelled_messages in
    record {
      typed = rw (open_of day h, five, cents, reserve_cents day.accounts day.reserves v.each, bodies) refl;
      version = v.known;
      stops = stops;
      ends = all_each (λ (m : Message). is_sound_body m.body) (λ m. has_times m.body) (λ m sound. timed_body m.body sound) day.messages q.bodies;
      rounds = q.rounds;
      links = accounts.1;
      reserves = all_each (is_sound_reserve day.accounts) (λ x. is_account_number day.accounts x.account) (λ x sound. number_there day.accounts x sound) day.reserves v.each;
      earliest = kept.earliest;
      room = room;
      fine = written_fine day kept p q v;
    }

pub typed_meets : (day : Day) → is_sound day ≡ true → is_typed day ≡ true → day.room ≡ no_room → MeetsRules day
typed_meets day h typed room =
    let bodies = and_both _ (list_all (λ m. has_typed_body m.body) day.messages) typed in
    let reserves = and_both _ (list_all (λ x. is_cents x.urgent && is_cents x.high) day.reserves) bodies.0 in
    let openings = and_both _ (list_all (λ a. is_cents a.opening) day.accounts) reserves.0 in
    sound_meets day h (and_both (is_open_date day.date) (five_letters day.systems) openings.0).1 room

-- ---- what reading gives

system_five : (o : Option RecordKind) (r : Fields) (rest : List SystemRecord) → five_letters rest ≡ true → five_letters (cons_option (option_map_or (λ kind. system_in kind r) o None) rest) ≡ true
unfolding listed
system_five None r rest h = h
system_five (Some record_kinds.As) r rest h = h
system_five (Some _) r rest h = h

systems_five : (records : List Fields) → five_letters (systems_of records) ≡ true
unfolding systems_of
systems_five [] = refl
systems_five (r ∷ records) = system_five (kind_of r) r (filter_map system_of records) (systems_five records)

made_sound : (records : List Fields) → bad_records records ≡ [] → list_any is_end records ≡ true → is_sound (day_made records) ≡ true
unfolding so_far_of
made_sound records fine ended =
    let h = in_step_all [] records in_step_first fine in
    day_sound (so_far_of records) h (h.started ended)

made_meets : (records : List Fields) → bad_records records ≡ [] → list_any is_end records ≡ true → MeetsRules (day_made records)
made_meets records fine ended = sound_meets (day_made records) (made_sound records fine ended) (systems_five records) refl

no_fault_in : {A : Type 0} (faults : List (ℕ × DayCode)) (a b : A) → unless_bad faults a ≡ Ok b → (faults ≡ []) × (a ≡ b)
no_fault_in [] a b e = (refl, cc e)
no_fault_in (f ∷ faults) a b e = cc e

none_missing : (b : Bool) (last : ℕ × DayCode) → (if b then [] else last ∷ []) ≡ [] → b ≡ true
none_missing true last e = refl
none_missing false last e = cc e

end_there : (records : List Fields) → missing_end records ≡ [] → list_any is_end records ≡ true
end_there records e = none_missing (list_any is_end records) (length records + 1, day_codes.Cut) e

pub read_meets : (input : List ℕ) (day : Day) (len : ℕ) → day_of_bytes input ≡ Ok (day, len) → MeetsRules day
read_meets input day len e =
    let read = no_fault_in (faults_of (day_records input)) (day_made (day_records input), day_len input) (day, len) e in
    let parts = last_none (bad_records (day_records input)) (missing_end (day_records input)) read.0 in
    subst (λ (x : Day × ℕ). MeetsRules x.0) read.1 (made_meets (day_records input) parts.0 (end_there (day_records input) parts.1))

-- the same of the records of a day part
pub part_meets : (records : List Fields) (day : Day) → day_of records ≡ Ok day → MeetsRules day
part_meets records day e =
    let read = no_fault_in (faults_of records) (day_made records) day e in
    let parts = last_none (bad_records records) (missing_end records) read.0 in
    rw (← read.1) (made_meets records parts.0 (end_there records parts.1))

-- and a day that meets the rules is sound
pub meets_sound : (day : Day) → MeetsRules day → is_sound day ≡ true
meets_sound day m = rw (← day_back day (meets_kept day m)) (made_sound (written_records day) m.fine (has_end day))

pub meets_where_sound : (day : Day) → is_typed day ≡ true → day.room ≡ no_room → MeetsRules day ↔ (is_sound day ≡ true)
meets_where_sound day typed room = (meets_sound day, λ sound. typed_meets day sound typed room)

-- ---- a day with labels that states the same

pub second_sound : (day : Day) → is_sound day ≡ true → is_sound (migrated day) ≡ true
second_sound day h =
    let more = migrated_limits day.version in
    sound_whole (migrated day) (open_of day h) (setup_parts day h)
    (in_limits day.version (migrated day).version day.stops day.messages more.0 more.1 (message_parts day h))
    (in_labels day.version (migrated day).version day.accounts day.reserves day.messages (migrated_labels day.version) (version_parts day h))

pub second_meets : (day : Day) → MeetsRules day → MeetsRules (migrated day)
second_meets day m = typed_meets (migrated day) (second_sound day (meets_sound day m)) m.typed m.room
