-- The records that state a day make it.
use Rattle.std.proofs.Common.{◌≡◌, ◌≤◌, ◌+◌, ◌-◌, ℕ, suc, List, [], ◌∷◌, ◌++◌, Option, Some, None, Bool, true, length, map, drop, refl, ap, sym, arith, add-zero, append_assoc, append-nil, ◌∙◌, false, inl, inr}
use Rattle.std.specs.Prelude.{◌==◌, ◌&&◌, filter_map, nat_le, nat_lt, if◌then◌else◌}
use Rattle.std.specs.List.{cons_option, list_all, slice_range}
use Rattle.std.proofs.lemmas.Bool.{eqb-true}
use Rattle.std.proofs.lemmas.List.{length-drop, length-take-le}
use Rattle.std.proofs.lemmas.List.Elements.{filter_map-append}
use Rattle.std.proofs.lemmas.List.Folds.{drop_split}
use Rattle.cash_amounts.specs.Names.{is_id, is_name}
use Rattle.cash_amounts.specs.declared.cents.TheConstants.{MAX_CENTS}
use Rattle.cash_amounts.specs.declared.records.AccountKind.{AccountKind}
use Rattle.cash_amounts.specs.declared.records.AccountKind.TheVariants as account_kinds
use Rattle.cash_amounts.specs.declared.records.AccountRecord.{AccountRecord}
use Rattle.cash_amounts.specs.declared.records.Procedure.{Procedure}
use Rattle.cash_amounts.specs.declared.records.Procedure.TheVariants as procedures
use Rattle.cash_amounts.specs.declared.records.SystemRecord.{SystemRecord}
use Rattle.period_calendar.specs.Calendar.{CivilDay}
use Rattle.period_calendar.proofs.DateLemmas.{date_text_reads}
use Rattle.batch_records.specs.DayTexts.{account_record, body_record, day_record, end_record, entry_record, inner_records, link_text, message_records, moment_records, name_of_account, reserve_record, stop_record, system_record, written_records, procedure_word, version_record, version_records}
use Rattle.batch_records.specs.Kinds.{kind_named}
use Rattle.batch_records.specs.Made.{account_of, accounts_of, date_in, day_made, entries_at, entry_from, message_of, messages_from, procedure_linked, reserve_of, reserves_from, stop_of, stops_of, system_linked, system_of, systems_of, date_of, is_ver, version_from, version_of}
use Rattle.batch_records.specs.Meets.{has_own_times, is_cents, is_time}
use Rattle.batch_records.specs.Records.{Fields}
use Rattle.batch_records.specs.Sound.{are_times, entries_in, is_open_date, is_time_or_none, rounds_rise}
use Rattle.batch_records.specs.Words.{technical_named}
use Rattle.batch_records.specs.declared.day.Body.{Body}
use Rattle.batch_records.specs.declared.day.Body.TheVariants as bodies
use Rattle.batch_records.specs.DayRecord.{Day}
use Rattle.batch_records.specs.declared.day.Entry.{Entry}
use Rattle.batch_records.specs.declared.day.Message.{Message}
use Rattle.batch_records.specs.declared.day.Reserve.{Reserve}
use Rattle.batch_records.proofs.BoolFacts.{and_both, le_meant, lt_meant}
use Rattle.batch_records.proofs.KeptDay.{IsKept, entries_kept, is_kept_account, is_kept_body, is_kept_entry, is_kept_link, is_kept_message, is_kept_reserve, is_kept_system, is_numbered, numbered_back}
use Rattle.batch_records.proofs.ListFacts.{AllIn, all_drop, all_in_append, all_take}
use Rattle.batch_records.proofs.SpellingFacts.{amount_back, answer_reads, count_back, cycle_reads, kind_reads, letters_back, priority_reads, procedure_reads, time_reads}
use Rattle.batch_records.specs.Versions.{begins_with_ver, is_version}
use Rattle.batch_records.proofs.BatchFields.{count_is, end_back, from_is, info_is, sum_is, till_is, version_cases}

-- ---- items

pub date_back : (date : CivilDay) → is_open_date date ≡ true → date_in (day_record date) ≡ Some date
date_back date h = rw (date_text_reads date h) refl

pub system_back : (s : SystemRecord) → is_kept_system s ≡ true → system_of (system_record s) ≡ Some s
unfolding kind_named
system_back s h =
    let five = eqb-true (length s.procedures) 5 (and_both (is_name s.name) (length s.procedures == 5) h).1 in
    rw (letters_back s.procedures five) refl

pub link_system : (k : AccountKind) (system : Option (List ℕ)) (p : Option Procedure) → is_kept_link k system p ≡ true → system_linked k (link_text k system p) ≡ system
link_system account_kinds.Dca None p h = refl
link_system account_kinds.Dca (Some system) p h = cc h
link_system account_kinds.Sub None p h = cc h
link_system account_kinds.Sub (Some system) p h = refl
link_system account_kinds.Tech None p h = refl
link_system account_kinds.Tech (Some system) p h = cc h
link_system account_kinds.Fund None p h = refl
link_system account_kinds.Fund (Some system) p h = cc h

pub link_procedure : (k : AccountKind) (system : Option (List ℕ)) (p : Option Procedure) → is_kept_link k system p ≡ true → procedure_linked k (link_text k system p) ≡ p
unfolding technical_named
link_procedure account_kinds.Dca system None h = refl
link_procedure account_kinds.Dca None (Some p) h = cc h
link_procedure account_kinds.Dca (Some system) (Some p) h = cc h
link_procedure account_kinds.Fund system None h = refl
link_procedure account_kinds.Fund None (Some p) h = cc h
link_procedure account_kinds.Fund (Some system) (Some p) h = cc h
link_procedure account_kinds.Sub system None h = refl
link_procedure account_kinds.Sub None (Some p) h = cc h
link_procedure account_kinds.Sub (Some system) (Some p) h = cc h
link_procedure account_kinds.Tech None None h = refl
link_procedure account_kinds.Tech None (Some procedures.A) h = refl
link_procedure account_kinds.Tech None (Some procedures.B) h = refl
link_procedure account_kinds.Tech None (Some procedures.C) h = refl
link_procedure account_kinds.Tech None (Some procedures.D) h = refl
link_procedure account_kinds.Tech None (Some procedures.E) h = cc h
link_procedure account_kinds.Tech (Some system) p h = cc h

pub account_back : (a : AccountRecord) → is_kept_account a ≡ true → account_of (account_record a) ≡ Some a
unfolding kind_named
account_back a h =
    let all = and_both (is_name a.name && is_name a.owner && is_cents a.opening) (is_kept_link a.kind a.system a.procedure) h in
    let small = le_meant a.opening MAX_CENTS (and_both (is_name a.name && is_name a.owner) (is_cents a.opening) all.0).1 in
    rw (kind_reads a.kind, link_system a.kind a.system a.procedure all.1, link_procedure a.kind a.system a.procedure all.1, amount_back a.opening small) refl

pub stop_back : (t : ℕ) → is_time t ≡ true → stop_of (stop_record t) ≡ Some t
unfolding kind_named
stop_back t h = rw (time_reads t (le_meant t 86400 h)) refl

pub entry_back : (e : Entry) → is_kept_entry e ≡ true → entry_from (entry_record e) ≡ e
entry_back e h = rw (amount_back e.amount (le_meant e.amount MAX_CENTS (and_both (is_name e.debit && is_name e.credit) (is_cents e.amount) h).1)) refl

body_back : (version round : ℕ) (sender id : List ℕ) (b : Body) → is_kept_body b ≡ true → has_own_times version b ≡ true → message_of version round (entries_in b) (body_record version sender id b) ≡ Some (record { round = round; sender = sender; id = id; body = b })
unfolding kind_named
body_back version round sender id (bodies.Batch p info early till count sum entries) h own =
    let all = and_both (are_times info early till && nat_lt count 10000000 && is_cents sum) (list_all is_kept_entry entries) h in
    let front = and_both (are_times info early till && nat_lt count 10000000) (is_cents sum) all.0 in
    let more = and_both (are_times info early till) (nat_lt count 10000000) front.0 in
    let times = and_both (is_time_or_none info && is_time_or_none early) (is_time_or_none till) more.0 in
    let ends = and_both (is_time_or_none info) (is_time_or_none early) times.0 in
    let word = procedure_word p in
    rw (
      procedure_reads p,
      info_is version sender id word info early till count sum,
      from_is version sender id word info early till count sum own,
      till_is version sender id word info early till count sum,
      count_is version sender id word info early till count sum,
      sum_is version sender id word info early till count sum,
      end_back info ends.0,
      end_back early ends.1,
      end_back till times.1,
      count_back count (lt_meant count 10000000 more.1),
      amount_back sum (le_meant sum MAX_CENTS front.1),
    )
    refl
body_back version round sender id (bodies.Pay high debit credit amount) h own =
    rw (priority_reads high, amount_back amount (le_meant amount MAX_CENTS (and_both (is_name debit && is_name credit) (is_cents amount) h).1)) refl
body_back version round sender id (bodies.Liquidity debit credit amount) h own =
    rw (amount_back amount (le_meant amount MAX_CENTS (and_both (is_name debit && is_name credit) (is_cents amount) h).1)) refl
body_back version round sender id (bodies.Object system batch) h own = refl
body_back version round sender id (bodies.Confirm batch answer) h own = rw (answer_reads answer) refl
body_back version round sender id (bodies.Cycle start) h own = rw (cycle_reads start) refl

-- ---- which records are none of these

-- a record that is no system and no account, and states nothing that an account keeps
abbrev IsLater : Fields → Type 0
IsLater r = (system_of r ≡ None) × (account_of r ≡ None) × ((accounts : List AccountRecord) → reserve_of accounts r ≡ None)

body_later : (version : ℕ) (sender id : List ℕ) (b : Body) → IsLater (body_record version sender id b)
unfolding kind_named
body_later version sender id (bodies.Batch p info early till count sum entries) = (refl, refl, λ accounts. refl)
body_later version sender id (bodies.Pay high debit credit amount) = (refl, refl, λ accounts. refl)
body_later version sender id (bodies.Liquidity debit credit amount) = (refl, refl, λ accounts. refl)
body_later version sender id (bodies.Object system batch) = (refl, refl, λ accounts. refl)
body_later version sender id (bodies.Confirm batch answer) = (refl, refl, λ accounts. refl)
body_later version sender id (bodies.Cycle start) = (refl, refl, λ accounts. refl)

body_no_stop : (version : ℕ) (sender id : List ℕ) (b : Body) → stop_of (body_record version sender id b) ≡ None
unfolding kind_named
body_no_stop version sender id (bodies.Batch p info early till count sum entries) = refl
body_no_stop version sender id (bodies.Pay high debit credit amount) = refl
body_no_stop version sender id (bodies.Liquidity debit credit amount) = refl
body_no_stop version sender id (bodies.Object system batch) = refl
body_no_stop version sender id (bodies.Confirm batch answer) = refl
body_no_stop version sender id (bodies.Cycle start) = refl

stops_later : (ts : List ℕ) → AllIn IsLater (map stop_record ts)
unfolding kind_named
stops_later [] = tt
stops_later (t ∷ ts) = ((refl, refl, λ accounts. refl), stops_later ts)

entries_later : (es : List Entry) → AllIn IsLater (map entry_record es)
unfolding kind_named
entries_later [] = tt
entries_later (e ∷ es) = ((refl, refl, λ accounts. refl), entries_later es)

moments_later : (version : ℕ) (stops : List ℕ) (passed : ℕ) (ms : List Message) → AllIn IsLater (moment_records version stops passed ms)
unfolding moment_records
moments_later version stops passed [] = stops_later (drop passed stops)
moments_later version stops passed (m ∷ ms) =
    all_in_append IsLater (map stop_record (slice_range stops passed m.round) ++ message_records version m) (moment_records version stops m.round ms)
    (all_in_append IsLater (map stop_record (slice_range stops passed m.round)) (message_records version m) (stops_later (slice_range stops passed m.round)) (body_later version m.sender m.id m.body, entries_later (entries_in m.body)))
    (moments_later version stops m.round ms)

no_system : (rows : List Fields) → AllIn IsLater rows → filter_map system_of rows ≡ []
no_system [] all = refl
no_system (r ∷ rows) all = rw (all.0.0, no_system rows all.1) refl

no_account : (rows : List Fields) → AllIn IsLater rows → filter_map account_of rows ≡ []
no_account [] all = refl
no_account (r ∷ rows) all = rw (all.0.1, no_account rows all.1) refl

no_reserve : (accounts : List AccountRecord) (rows : List Fields) → AllIn IsLater rows → reserves_from accounts rows ≡ []
unfolding reserves_from accounts_of
no_reserve accounts [] all = refl
no_reserve accounts (r ∷ rows) all = rw (all.0.2 accounts, all.0.1, append-nil accounts) (no_reserve accounts rows all.1)

none_made : {X Y : Type 0} (h : Fields → Option Y) (f : X → Fields) → ((x : X) → h (f x) ≡ None) → (xs : List X) → filter_map h (map f xs) ≡ []
none_made h f none [] = refl
none_made h f none (x ∷ xs) = rw (none x, none_made h f none xs) refl

all_made : {X : Type 0} (h : Fields → Option X) (f : X → Fields) (p : X → Bool) → ((x : X) → p x ≡ true → h (f x) ≡ Some x) → (xs : List X) → list_all p xs ≡ true → filter_map h (map f xs) ≡ xs
all_made h f p back [] all = refl
all_made h f p back (x ∷ xs) all = let both = and_both (p x) (list_all p xs) all in rw (back x both.0, all_made h f p back xs both.1) refl

-- ---- systems and accounts

-- VER is none of a list's records that have one
head_none : {Y : Type 0} (h : Fields → Option Y) (version : ℕ) (rows : List Fields) → h (version_record version) ≡ None → filter_map h (version_records version ++ rows) ≡ filter_map h rows
unfolding version_records
head_none h version rows none =
    elim (begins_with_ver version) as (λ b. filter_map h ((if b then version_record version ∷ [] else []) ++ rows) ≡ filter_map h rows) [ true ↦ rw none refl | false ↦ refl ]

between : {Y : Type 0} (h : Fields → Option Y) (first last : Fields) (rows : List Fields) → h first ≡ None → h last ≡ None → filter_map h (first ∷ (rows ++ last ∷ [])) ≡ filter_map h rows
between h first last rows a b =
    let split = filter_map-append h rows (last ∷ []) in
    rw (a, split, b) (append-nil (filter_map h rows))

systems_back : (day : Day) → IsKept day → systems_of (written_records day) ≡ day.systems
unfolding systems_of written_records inner_records kind_named
systems_back day k =
    head_none system_of day.version (day_record day.date ∷ (inner_records day ++ end_record ∷ [])) refl
    ∙ between system_of (day_record day.date) end_record (inner_records day) refl refl
    ∙ filter_map-append system_of (map system_record day.systems) (map account_record day.accounts ++ (map (reserve_record day.accounts) day.reserves ++ moment_records day.version day.stops 0 day.messages))
    ∙ rw (
      all_made system_of system_record is_kept_system system_back day.systems k.systems,
      filter_map-append system_of (map account_record day.accounts) (map (reserve_record day.accounts) day.reserves ++ moment_records day.version day.stops 0 day.messages),
      filter_map-append system_of (map (reserve_record day.accounts) day.reserves) (moment_records day.version day.stops 0 day.messages),
      none_made system_of (reserve_record day.accounts) (λ x. refl) day.reserves,
      none_made system_of account_record (λ a. refl) day.accounts,
      no_system (moment_records day.version day.stops 0 day.messages) (moments_later day.version day.stops 0 day.messages),
    ) (append-nil day.systems)

pub accounts_back : (day : Day) → list_all is_kept_account day.accounts ≡ true → accounts_of (written_records day) ≡ day.accounts
unfolding accounts_of written_records inner_records kind_named
accounts_back day k =
    head_none account_of day.version (day_record day.date ∷ (inner_records day ++ end_record ∷ [])) refl
    ∙ between account_of (day_record day.date) end_record (inner_records day) refl refl
    ∙ filter_map-append account_of (map system_record day.systems) (map account_record day.accounts ++ (map (reserve_record day.accounts) day.reserves ++ moment_records day.version day.stops 0 day.messages))
    ∙ rw (
      none_made account_of system_record (λ s. refl) day.systems,
      filter_map-append account_of (map account_record day.accounts) (map (reserve_record day.accounts) day.reserves ++ moment_records day.version day.stops 0 day.messages),
      filter_map-append account_of (map (reserve_record day.accounts) day.reserves) (moment_records day.version day.stops 0 day.messages),
      none_made account_of (reserve_record day.accounts) (λ x. refl) day.reserves,
      all_made account_of account_record is_kept_account account_back day.accounts k,
      no_account (moment_records day.version day.stops 0 day.messages) (moments_later day.version day.stops 0 day.messages),
    ) (append-nil day.accounts)

-- ---- what accounts keep

pub reserve_back : (accounts : List AccountRecord) (x : Reserve) → is_kept_reserve accounts x ≡ true → reserve_of accounts (reserve_record accounts x) ≡ Some x
unfolding kind_named
reserve_back accounts x h =
    let all = and_both (is_name (name_of_account accounts x.account) && is_cents x.urgent && is_cents x.high) (is_numbered accounts x.account) h in
    let front = and_both (is_name (name_of_account accounts x.account) && is_cents x.urgent) (is_cents x.high) all.0 in
    let urgent = le_meant x.urgent MAX_CENTS (and_both (is_name (name_of_account accounts x.account)) (is_cents x.urgent) front.0).1 in
    let high = le_meant x.high MAX_CENTS front.1 in
    rw (numbered_back accounts x.account all.1, amount_back x.urgent urgent, amount_back x.high high) refl

-- after the accounts
reserves_made : (accounts : List AccountRecord) (xs : List Reserve) (rest : List Fields) → list_all (is_kept_reserve accounts) xs ≡ true → reserves_from accounts (map (reserve_record accounts) xs ++ rest) ≡ xs ++ reserves_from accounts rest
unfolding reserves_from accounts_of kind_named
reserves_made accounts [] rest all = refl
reserves_made accounts (x ∷ xs) rest all =
    let both = and_both (is_kept_reserve accounts x) (list_all (is_kept_reserve accounts) xs) all in
    let more = map (reserve_record accounts) xs ++ rest in
    ap (λ (o : Option Reserve). cons_option o (reserves_from (accounts ++ []) more)) (reserve_back accounts x both.0)
    ∙ ap (λ (l : List AccountRecord). x ∷ reserves_from l more) (append-nil accounts)
    ∙ ap (λ (l : List Reserve). x ∷ l) (reserves_made accounts xs rest both.1)

reserves_systems : (accounts : List AccountRecord) (ss : List SystemRecord) (rest : List Fields) → reserves_from accounts (map system_record ss ++ rest) ≡ reserves_from accounts rest
unfolding reserves_from accounts_of kind_named
reserves_systems accounts [] rest = refl
reserves_systems accounts (s ∷ ss) rest = rw (append-nil accounts) (reserves_systems accounts ss rest)

reserves_accounts : (before xs : List AccountRecord) (rest : List Fields) → list_all is_kept_account xs ≡ true → reserves_from before (map account_record xs ++ rest) ≡ reserves_from (before ++ xs) rest
unfolding reserves_from accounts_of kind_named
reserves_accounts before [] rest all = rw (append-nil before) refl
reserves_accounts before (a ∷ xs) rest all =
    let both = and_both (is_kept_account a) (list_all is_kept_account xs) all in
    ap (λ (o : Option AccountRecord). reserves_from (before ++ cons_option o []) (map account_record xs ++ rest)) (account_back a both.0)
    ∙ reserves_accounts (before ++ a ∷ []) xs rest both.1
    ∙ ap (λ (l : List AccountRecord). reserves_from l rest) (append_assoc before (a ∷ []) xs)

head_no_reserve : (version : ℕ) (date : CivilDay) (rest : List Fields) → is_version version ≡ true → reserves_from [] (version_records version ++ day_record date ∷ rest) ≡ reserves_from [] rest
unfolding reserves_from accounts_of kind_named version_records
head_no_reserve version date rest known = elim (version_cases version known) [
  | inl one ↦ rw one refl
  | inr (inl two) ↦ rw two refl
  | inr (inr three) ↦ rw three refl
]

end_no_reserve : (accounts : List AccountRecord) → reserves_from accounts (end_record ∷ []) ≡ []
unfolding reserves_from accounts_of kind_named
end_no_reserve accounts = refl

reserves_later : (accounts : List AccountRecord) (rows rest : List Fields) → AllIn IsLater rows → reserves_from accounts (rows ++ rest) ≡ reserves_from accounts rest
unfolding reserves_from accounts_of
reserves_later accounts [] rest all = refl
reserves_later accounts (r ∷ rows) rest all = rw (all.0.2 accounts, all.0.1, append-nil accounts) (reserves_later accounts rows rest all.1)

reserves_back : (day : Day) → IsKept day → reserves_from [] (written_records day) ≡ day.reserves
unfolding written_records inner_records
reserves_back day k =
    let moments = moment_records day.version day.stops 0 day.messages in
    let kept = map (reserve_record day.accounts) day.reserves in
    let tail = end_record ∷ [] in
    head_no_reserve day.version day.date ((map system_record day.systems ++ (map account_record day.accounts ++ (kept ++ moments))) ++ tail) k.version
    ∙ ap (reserves_from []) (append_assoc (map system_record day.systems) (map account_record day.accounts ++ (kept ++ moments)) tail)
    ∙ reserves_systems [] day.systems ((map account_record day.accounts ++ (kept ++ moments)) ++ tail)
    ∙ ap (reserves_from []) (append_assoc (map account_record day.accounts) (kept ++ moments) tail)
    ∙ reserves_accounts [] day.accounts ((kept ++ moments) ++ tail) k.accounts
    ∙ ap (reserves_from day.accounts) (append_assoc kept moments tail)
    ∙ reserves_made day.accounts day.reserves (moments ++ tail) k.reserves
    ∙ ap (λ (l : List Reserve). day.reserves ++ l) (reserves_later day.accounts moments tail (moments_later day.version day.stops 0 day.messages) ∙ end_no_reserve day.accounts)
    ∙ append-nil day.reserves

-- ---- stops

message_no_stop : (version : ℕ) (m : Message) → filter_map stop_of (message_records version m) ≡ []
unfolding kind_named
message_no_stop version m = rw (body_no_stop version m.sender m.id m.body) (none_made stop_of entry_record (λ e. refl) (entries_in m.body))

round_parts : (last passed : ℕ) (m : Message) (ms : List Message) → rounds_rise last passed (m ∷ ms) ≡ true → (passed ≤ m.round) × (m.round ≤ last) × (rounds_rise last m.round ms ≡ true)
round_parts last passed m ms h =
    let both = and_both (nat_le passed m.round && nat_le m.round last) (rounds_rise last m.round ms) h in
    let ends = and_both (nat_le passed m.round) (nat_le m.round last) both.0 in
    (le_meant passed m.round ends.0, le_meant m.round last ends.1, both.1)

pub moments_stops : (version : ℕ) (stops : List ℕ) (passed : ℕ) (ms : List Message) → list_all is_time stops ≡ true → rounds_rise (length stops) passed ms ≡ true → filter_map stop_of (moment_records version stops passed ms) ≡ drop passed stops
unfolding moment_records
moments_stops version stops passed [] times h = all_made stop_of stop_record is_time stop_back (drop passed stops) (all_drop is_time passed stops times)
moments_stops version stops passed (m ∷ ms) times h =
    let parts = round_parts (length stops) passed m ms h in
    let seg = slice_range stops passed m.round in
    let own : filter_map stop_of (map stop_record seg) ≡ seg = all_made stop_of stop_record is_time stop_back seg (all_take is_time (m.round - passed) (drop passed stops) (all_drop is_time passed stops times)) in
    filter_map-append stop_of (map stop_record seg ++ message_records version m) (moment_records version stops m.round ms)
    ∙ rw (filter_map-append stop_of (map stop_record seg) (message_records version m), own, message_no_stop version m, append-nil seg, moments_stops version stops m.round ms times parts.2) (sym (drop_split stops passed m.round parts.0))

stops_back : (day : Day) → IsKept day → stops_of (written_records day) ≡ day.stops
unfolding stops_of written_records inner_records kind_named
stops_back day k =
    head_none stop_of day.version (day_record day.date ∷ (inner_records day ++ end_record ∷ [])) refl
    ∙ between stop_of (day_record day.date) end_record (inner_records day) refl refl
    ∙ filter_map-append stop_of (map system_record day.systems) (map account_record day.accounts ++ (map (reserve_record day.accounts) day.reserves ++ moment_records day.version day.stops 0 day.messages))
    ∙ rw (
      none_made stop_of system_record (λ s. refl) day.systems,
      filter_map-append stop_of (map account_record day.accounts) (map (reserve_record day.accounts) day.reserves ++ moment_records day.version day.stops 0 day.messages),
      filter_map-append stop_of (map (reserve_record day.accounts) day.reserves) (moment_records day.version day.stops 0 day.messages),
      none_made stop_of (reserve_record day.accounts) (λ x. refl) day.reserves,
      none_made stop_of account_record (λ a. refl) day.accounts,
    ) (moments_stops day.version day.stops 0 day.messages k.stops k.rounds)

-- ---- messages

messages_stops : (v n : ℕ) (ts : List ℕ) (rest : List Fields) → messages_from v n (map stop_record ts ++ rest) ≡ messages_from v (n + length ts) rest
unfolding messages_from stops_of kind_named
messages_stops v n [] rest = rw add-zero refl
messages_stops v n (t ∷ ts) rest =
    let more = messages_stops v (n + 1) ts rest in
    let count : n + 1 + length ts ≡ n + suc (length ts) = omega arith in
    more ∙ ap (λ (j : ℕ). messages_from v j rest) count

messages_entries : (v n : ℕ) (es : List Entry) (rest : List Fields) → messages_from v n (map entry_record es ++ rest) ≡ messages_from v n rest
unfolding messages_from stops_of kind_named
messages_entries v n [] rest = refl
messages_entries v n (e ∷ es) rest = rw (add-zero n) (messages_entries v n es rest)

messages_systems : (v n : ℕ) (ss : List SystemRecord) (rest : List Fields) → messages_from v n (map system_record ss ++ rest) ≡ messages_from v n rest
unfolding messages_from stops_of kind_named
messages_systems v n [] rest = refl
messages_systems v n (s ∷ ss) rest = rw (add-zero n) (messages_systems v n ss rest)

messages_accounts : (v n : ℕ) (xs : List AccountRecord) (rest : List Fields) → messages_from v n (map account_record xs ++ rest) ≡ messages_from v n rest
unfolding messages_from stops_of kind_named
messages_accounts v n [] rest = refl
messages_accounts v n (a ∷ xs) rest = rw (add-zero n) (messages_accounts v n xs rest)

messages_reserves : (v n : ℕ) (accounts : List AccountRecord) (xs : List Reserve) (rest : List Fields) → messages_from v n (map (reserve_record accounts) xs ++ rest) ≡ messages_from v n rest
unfolding messages_from stops_of kind_named
messages_reserves v n accounts [] rest = refl
messages_reserves v n accounts (x ∷ xs) rest = rw (add-zero n) (messages_reserves v n accounts xs rest)

entries_back : (es : List Entry) (rest : List Fields) → list_all is_kept_entry es ≡ true → entries_at rest ≡ [] → entries_at (map entry_record es ++ rest) ≡ es
unfolding kind_named
entries_back [] rest all none = none
entries_back (e ∷ es) rest all none =
    let both = and_both (is_kept_entry e) (list_all is_kept_entry es) all in
    rw (entry_back e both.0, entries_back es rest both.1 none) refl

body_no_entry : (version : ℕ) (sender id : List ℕ) (b : Body) (rest : List Fields) → entries_at (body_record version sender id b ∷ rest) ≡ []
unfolding kind_named
body_no_entry version sender id (bodies.Batch p info early till count sum entries) rest = refl
body_no_entry version sender id (bodies.Pay high debit credit amount) rest = refl
body_no_entry version sender id (bodies.Liquidity debit credit amount) rest = refl
body_no_entry version sender id (bodies.Object system batch) rest = refl
body_no_entry version sender id (bodies.Confirm batch answer) rest = refl
body_no_entry version sender id (bodies.Cycle start) rest = refl

stops_no_entry : (ts : List ℕ) (rest : List Fields) → entries_at rest ≡ [] → entries_at (map stop_record ts ++ rest) ≡ []
unfolding kind_named
stops_no_entry [] rest none = none
stops_no_entry (t ∷ ts) rest none = refl

-- the records of the moments, with what stands after a message in a form of its own
pub grouped : (version : ℕ) (stops : List ℕ) (passed : ℕ) (m : Message) (ms : List Message) (tail : List Fields)
    → moment_records version stops passed (m ∷ ms) ++ tail ≡ map stop_record (slice_range stops passed m.round) ++ (message_records version m ++ (moment_records version stops m.round ms ++ tail))
unfolding moment_records
grouped version stops passed m ms tail =
    append_assoc (map stop_record (slice_range stops passed m.round) ++ message_records version m) (moment_records version stops m.round ms) tail
    ∙ append_assoc (map stop_record (slice_range stops passed m.round)) (message_records version m) (moment_records version stops m.round ms ++ tail)

moments_no_entry : (version : ℕ) (stops : List ℕ) (passed : ℕ) (ms : List Message) (tail : List Fields) → entries_at tail ≡ [] → entries_at (moment_records version stops passed ms ++ tail) ≡ []
unfolding moment_records
moments_no_entry version stops passed [] tail none = stops_no_entry (drop passed stops) tail none
moments_no_entry version stops passed (m ∷ ms) tail none =
    rw (grouped version stops passed m ms tail)
    (stops_no_entry (slice_range stops passed m.round) (message_records version m ++ (moment_records version stops m.round ms ++ tail))
    (body_no_entry version m.sender m.id m.body (map entry_record (entries_in m.body) ++ (moment_records version stops m.round ms ++ tail))))

body_no_ver : (version : ℕ) (sender id : List ℕ) (b : Body) → is_ver (body_record version sender id b) ≡ false
unfolding kind_named
body_no_ver version sender id (bodies.Batch p info early till count sum entries) = refl
body_no_ver version sender id (bodies.Pay high debit credit amount) = refl
body_no_ver version sender id (bodies.Liquidity debit credit amount) = refl
body_no_ver version sender id (bodies.Object system batch) = refl
body_no_ver version sender id (bodies.Confirm batch answer) = refl
body_no_ver version sender id (bodies.Cycle start) = refl

message_back : (version : ℕ) (m : Message) (rest : List Fields) → is_kept_message m ≡ true → has_own_times version m.body ≡ true → entries_at rest ≡ [] → messages_from version m.round (message_records version m ++ rest) ≡ m ∷ messages_from version m.round rest
unfolding messages_from stops_of
message_back version m rest h own none =
    let kept = (and_both (is_name m.sender && is_id m.id) (is_kept_body m.body) h).1 in
    rw (
      entries_back (entries_in m.body) rest (entries_kept m.body kept) none,
      body_back version m.round m.sender m.id m.body kept own,
      body_no_ver version m.sender m.id m.body,
      body_no_stop version m.sender m.id m.body,
      add-zero m.round,
      messages_entries version m.round (entries_in m.body) rest,
    )
    refl

pub segment_long : (stops : List ℕ) (a b : ℕ) → a ≤ b → b ≤ length stops → a + length (slice_range stops a b) ≡ b
segment_long stops a b le within =
    let rest = length-drop a stops in
    let long = length-take-le (b - a) (drop a stops) (omega arith) in
    omega arith

pub moments_back : (version : ℕ) (stops : List ℕ) (passed : ℕ) (ms : List Message) (tail : List Fields) → rounds_rise (length stops) passed ms ≡ true → passed ≤ length stops → list_all is_kept_message ms ≡ true → list_all (λ m. has_own_times version m.body) ms ≡ true
    → entries_at tail ≡ [] → messages_from version (length stops) tail ≡ [] → messages_from version passed (moment_records version stops passed ms ++ tail) ≡ ms
unfolding moment_records
moments_back version stops passed [] tail rounds within kept own none over =
    let count : passed + length (drop passed stops) ≡ length stops = let rest = length-drop passed stops in omega arith in
    messages_stops version passed (drop passed stops) tail ∙ ap (λ (j : ℕ). messages_from version j tail) count ∙ over
moments_back version stops passed (m ∷ ms) tail rounds within kept own none over =
    let parts = round_parts (length stops) passed m ms rounds in
    let both = and_both (is_kept_message m) (list_all is_kept_message ms) kept in
    let times = and_both (has_own_times version m.body) (list_all (λ m. has_own_times version m.body) ms) own in
    let rest = moment_records version stops m.round ms ++ tail in
    ap (messages_from version passed) (grouped version stops passed m ms tail)
    ∙ messages_stops version passed (slice_range stops passed m.round) (message_records version m ++ rest)
    ∙ ap (λ (j : ℕ). messages_from version j (message_records version m ++ rest)) (segment_long stops passed m.round parts.0 parts.1)
    ∙ message_back version m rest both.0 times.0 (moments_no_entry version stops m.round ms tail none)
    ∙ ap (λ (l : List Message). m ∷ l) (moments_back version stops m.round ms tail parts.2 parts.1 both.1 times.1 none over)

end_no_message : (v n : ℕ) → messages_from v n (end_record ∷ []) ≡ []
unfolding messages_from kind_named
end_no_message v n = refl

end_no_entry : entries_at (end_record ∷ []) ≡ []
unfolding kind_named
end_no_entry = refl

-- after VER, where there is one, and DAY
head_no_message : (version : ℕ) (date : CivilDay) (rest : List Fields) → is_version version ≡ true → messages_from 1 0 (version_records version ++ day_record date ∷ rest) ≡ messages_from version 0 rest
unfolding messages_from stops_of kind_named version_records
head_no_message version date rest known =
    elim (version_cases version known) [
      | inl one ↦ rw one (rw (add-zero 0) refl)
      | inr (inl two) ↦ rw two (rw (add-zero 0) refl)
      | inr (inr three) ↦ rw three (rw (add-zero 0) refl)
    ]

messages_back : (day : Day) → IsKept day → messages_from 1 0 (written_records day) ≡ day.messages
unfolding written_records inner_records
messages_back day k =
    let version = day.version in
    let moments = moment_records day.version day.stops 0 day.messages in
    let kept = map (reserve_record day.accounts) day.reserves in
    let tail = end_record ∷ [] in
    head_no_message day.version day.date ((map system_record day.systems ++ (map account_record day.accounts ++ (kept ++ moments))) ++ tail) k.version
    ∙ ap (messages_from version 0) (append_assoc (map system_record day.systems) (map account_record day.accounts ++ (kept ++ moments)) tail)
    ∙ messages_systems version 0 day.systems ((map account_record day.accounts ++ (kept ++ moments)) ++ tail)
    ∙ ap (messages_from version 0) (append_assoc (map account_record day.accounts) (kept ++ moments) tail)
    ∙ messages_accounts version 0 day.accounts ((kept ++ moments) ++ tail)
    ∙ ap (messages_from version 0) (append_assoc kept moments tail)
    ∙ messages_reserves version 0 day.accounts day.reserves (moments ++ tail)
    ∙ moments_back version day.stops 0 day.messages tail k.rounds (omega arith) k.messages k.earliest end_no_entry (end_no_message version (length day.stops))

-- ---- the version and the date

-- a record that is no VER
abbrev pub IsNoVer : Fields → Type 0
IsNoVer r = is_ver r ≡ false

stops_no_ver : (ts : List ℕ) → AllIn IsNoVer (map stop_record ts)
unfolding kind_named
stops_no_ver [] = tt
stops_no_ver (t ∷ ts) = (refl, stops_no_ver ts)

entries_no_ver : (es : List Entry) → AllIn IsNoVer (map entry_record es)
unfolding kind_named
entries_no_ver [] = tt
entries_no_ver (e ∷ es) = (refl, entries_no_ver es)

systems_no_ver : (ss : List SystemRecord) → AllIn IsNoVer (map system_record ss)
unfolding kind_named
systems_no_ver [] = tt
systems_no_ver (s ∷ ss) = (refl, systems_no_ver ss)

accounts_no_ver : (xs : List AccountRecord) → AllIn IsNoVer (map account_record xs)
unfolding kind_named
accounts_no_ver [] = tt
accounts_no_ver (a ∷ xs) = (refl, accounts_no_ver xs)

reserves_no_ver : (accounts : List AccountRecord) (xs : List Reserve) → AllIn IsNoVer (map (reserve_record accounts) xs)
unfolding kind_named
reserves_no_ver accounts [] = tt
reserves_no_ver accounts (x ∷ xs) = (refl, reserves_no_ver accounts xs)

moments_no_ver : (version : ℕ) (stops : List ℕ) (passed : ℕ) (ms : List Message) → AllIn IsNoVer (moment_records version stops passed ms)
unfolding moment_records
moments_no_ver version stops passed [] = stops_no_ver (drop passed stops)
moments_no_ver version stops passed (m ∷ ms) =
    all_in_append IsNoVer (map stop_record (slice_range stops passed m.round) ++ message_records version m) (moment_records version stops m.round ms)
    (all_in_append IsNoVer (map stop_record (slice_range stops passed m.round)) (message_records version m) (stops_no_ver (slice_range stops passed m.round))
    (body_no_ver version m.sender m.id m.body, entries_no_ver (entries_in m.body)))
    (moments_no_ver version stops m.round ms)

-- no record after VER is one
pub rest_no_ver : (day : Day) → AllIn IsNoVer (day_record day.date ∷ (inner_records day ++ end_record ∷ []))
unfolding inner_records kind_named
rest_no_ver day =
    let moments = moment_records day.version day.stops 0 day.messages in
    let kept = map (reserve_record day.accounts) day.reserves in (
      refl,
      all_in_append IsNoVer (map system_record day.systems ++ (map account_record day.accounts ++ (kept ++ moments))) (end_record ∷ [])
          (all_in_append IsNoVer (map system_record day.systems) (map account_record day.accounts ++ (kept ++ moments)) (systems_no_ver day.systems)
          (all_in_append IsNoVer (map account_record day.accounts) (kept ++ moments) (accounts_no_ver day.accounts)
          (all_in_append IsNoVer kept moments (reserves_no_ver day.accounts day.reserves) (moments_no_ver day.version day.stops 0 day.messages))))
          (refl, tt),
    )

same_version : (version : ℕ) (rows : List Fields) → AllIn IsNoVer rows → version_from version rows ≡ version
same_version version [] none = refl
same_version version (r ∷ rows) none = rw none.0 (same_version version rows none.1)

-- the version after what is in front of DAY
pub head_version : (version : ℕ) → is_version version ≡ true → version_of (version_records version) ≡ version
unfolding version_of version_records kind_named
head_version version known = elim (version_cases version known) [
  | inl one ↦ rw one refl
  | inr (inl two) ↦ rw two refl
  | inr (inr three) ↦ rw three refl
]

behind_head : (version : ℕ) (rows : List Fields) → is_version version ≡ true → AllIn IsNoVer rows → version_of (version_records version ++ rows) ≡ version
unfolding version_of version_records kind_named
behind_head version rows known none =
    elim (version_cases version known) [
      | inl one ↦ rw one (same_version 1 rows none)
      | inr (inl two) ↦ rw two (same_version 2 rows none)
      | inr (inr three) ↦ rw three (same_version 3 rows none)
    ]

version_back : (day : Day) → IsKept day → version_of (written_records day) ≡ day.version
unfolding written_records
version_back day k = behind_head day.version (day_record day.date ∷ (inner_records day ++ end_record ∷ [])) k.version (rest_no_ver day)

-- the date of the records of a day
first_date : (version : ℕ) (date : CivilDay) (rest : List Fields) → is_open_date date ≡ true → date_of (version_records version ++ day_record date ∷ rest) ≡ Some date
unfolding version_records kind_named
first_date version date rest h =
    elim (begins_with_ver version) as (λ b. date_of ((if b then version_record version ∷ [] else []) ++ day_record date ∷ rest) ≡ Some date) [ true ↦ date_back date h | false ↦ date_back date h ]

dated_back : (day : Day) → IsKept day → date_of (written_records day) ≡ Some day.date
unfolding written_records
dated_back day k = first_date day.version day.date (inner_records day ++ end_record ∷ []) k.date

-- ---- all together

pub day_back : (day : Day) → IsKept day → day_made (written_records day) ≡ day
day_back day k = rw (version_back day k, dated_back day k, accounts_back day k.accounts, systems_back day k, reserves_back day k, stops_back day k, messages_back day k)
    (λ i. record { version = day.version; date = day.date; accounts = day.accounts; systems = day.systems; reserves = day.reserves; stops = day.stops; messages = day.messages; room = sym k.room i })
