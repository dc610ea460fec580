-- What each item of a day has to be so that its record is read as it.
use Rattle.std.proofs.Common.{◌≡◌, ◌-◌, ℕ, List, [], ◌∷◌, ◌++◌, Option, Some, None, Bool, true, false, length, drop, map, refl, ap, sym}
use Rattle.std.specs.Prelude.{◌==◌, ◌&&◌, codes, nat_eq, nat_lt, if◌then◌else◌}
use Rattle.std.specs.List.{list_all, slice_range}
use Rattle.std.proofs.lemmas.Bool.{eqb-true}
use Rattle.cash_amounts.specs.Tests.{some_passes}
use Rattle.cash_amounts.specs.Names.{is_id, is_name}
use Rattle.cash_amounts.specs.declared.records.AccountKind.{AccountKind}
use Rattle.cash_amounts.specs.declared.records.AccountKind.TheVariants as account_kinds
use Rattle.cash_amounts.specs.declared.records.AccountRecord.{AccountRecord}
use Rattle.cash_amounts.specs.declared.records.Procedure.{Procedure}
use Rattle.cash_amounts.specs.declared.records.Procedure.TheVariants as procedures
use Rattle.cash_amounts.specs.declared.records.SystemRecord.{SystemRecord}
use Rattle.cash_amounts.specs.declared.cents.TheConstants.{MAX_CENTS}
use Rattle.period_calendar.specs.Calendar.{CivilDay}
use Rattle.batch_records.specs.DayPart.{end_line_len}
use Rattle.batch_records.specs.DayTexts.{account_record, body_record, day_record, entry_record, inner_records, link_text, message_records, moment_records, name_of_account, reserve_record, stop_record, system_record, version_record, version_records}
use Rattle.batch_records.specs.Meets.{has_own_times, is_cents, is_time}
use Rattle.batch_records.specs.Made.{number_named}
use Rattle.batch_records.specs.Sound.{entries_in, is_open_date, are_times, rounds_rise}
use Rattle.batch_records.specs.declared.day.Body.{Body}
use Rattle.batch_records.specs.declared.day.Body.TheVariants as bodies
use Rattle.batch_records.specs.DayRecord.{Day, no_room}
use Rattle.batch_records.specs.declared.day.Entry.{Entry}
use Rattle.batch_records.specs.declared.day.Message.{Message}
use Rattle.batch_records.specs.declared.day.Reserve.{Reserve}
use Rattle.batch_records.proofs.BoolFacts.{and_both, le_meant, lt_meant}
use Rattle.batch_records.proofs.LineFacts.{IsOther, is_plain}
use Rattle.batch_records.proofs.ListFacts.{AllIn, all_drop, all_in_append, all_in_map, all_take}
use Rattle.batch_records.proofs.SpellingFacts.{amount_plain, answer_plain, cycle_plain, date_plain, id_plain, kind_plain, letters_plain, name_plain, priority_plain, procedure_plain, time_plain}
use Rattle.batch_records.specs.Versions.{begins_with_ver, is_third, is_version}
use Rattle.batch_records.proofs.BatchFields.{fields_plain}

abbrev pub is_kept_system : SystemRecord → Bool
is_kept_system s = is_name s.name && (length s.procedures == 5)

abbrev pub is_kept_link : AccountKind → Option (List ℕ) → Option Procedure → Bool
is_kept_link account_kinds.Dca None None = true
is_kept_link account_kinds.Sub (Some system) None = is_name system
is_kept_link account_kinds.Tech None (Some procedures.E) = false
is_kept_link account_kinds.Tech None (Some p) = true
is_kept_link account_kinds.Fund None None = true
is_kept_link _ system p = false

abbrev pub is_kept_account : AccountRecord → Bool
is_kept_account a = is_name a.name && is_name a.owner && is_cents a.opening && is_kept_link a.kind a.system a.procedure

-- the account of this name is that of the number
abbrev pub is_numbered : List AccountRecord → ℕ → Bool
is_numbered accounts a = some_passes (nat_eq a) (number_named accounts (name_of_account accounts a))

is_number : (a : ℕ) (o : Option ℕ) → some_passes (nat_eq a) o ≡ true → o ≡ Some a
is_number a None h = cc h
is_number a (Some n) h = ap Some (sym (eqb-true a n h))

pub numbered_back : (accounts : List AccountRecord) (a : ℕ) → is_numbered accounts a ≡ true → number_named accounts (name_of_account accounts a) ≡ Some a
numbered_back accounts a h = is_number a (number_named accounts (name_of_account accounts a)) h

abbrev pub is_kept_reserve : List AccountRecord → Reserve → Bool
is_kept_reserve accounts x = is_name (name_of_account accounts x.account) && is_cents x.urgent && is_cents x.high && is_numbered accounts x.account

abbrev pub is_kept_entry : Entry → Bool
is_kept_entry e = is_name e.debit && is_name e.credit && is_cents e.amount

abbrev pub is_kept_body : Body → Bool
is_kept_body (bodies.Batch p info early till count sum entries) =
    are_times info early till && nat_lt count 10000000 && is_cents sum && list_all is_kept_entry entries
is_kept_body (bodies.Pay high debit credit amount) = is_name debit && is_name credit && is_cents amount
is_kept_body (bodies.Liquidity debit credit amount) = is_name debit && is_name credit && is_cents amount
is_kept_body (bodies.Object system batch) = is_name system && is_id batch
is_kept_body (bodies.Confirm batch answer) = is_id batch
is_kept_body (bodies.Cycle start) = true

abbrev pub is_kept_message : Message → Bool
is_kept_message m = is_name m.sender && is_id m.id && is_kept_body m.body

pub record IsKept (day : Day) : Type 0 where
  pub version : is_version day.version ≡ true
  pub date : is_open_date day.date ≡ true
  pub systems : list_all is_kept_system day.systems ≡ true
  pub accounts : list_all is_kept_account day.accounts ≡ true
  pub reserves : list_all (is_kept_reserve day.accounts) day.reserves ≡ true
  pub stops : list_all is_time day.stops ≡ true
  pub messages : list_all is_kept_message day.messages ≡ true
  pub earliest : list_all (λ m. has_own_times day.version m.body) day.messages ≡ true
  pub rounds : rounds_rise (length day.stops) 0 day.messages ≡ true
  pub room : day.room ≡ no_room

-- ---- the lines of what is kept

day_other : (date : CivilDay) → IsOther (day_record date)
unfolding end_line_len
day_other date = record { plain = record { word = refl; plain = rw (date_plain date) refl }; other = λ tail. refl }

system_other : (s : SystemRecord) → is_kept_system s ≡ true → IsOther (system_record s)
unfolding end_line_len
system_other s h =
    let both = and_both (is_name s.name) (length s.procedures == 5) h in
    record { plain = record { word = refl; plain = rw (name_plain s.name both.0, letters_plain s.procedures) refl }; other = λ tail. refl }

link_plain : (k : AccountKind) (system : Option (List ℕ)) (p : Option Procedure) → is_kept_link k system p ≡ true → is_plain (link_text k system p) ≡ true
link_plain account_kinds.Dca system p h = refl
link_plain account_kinds.Fund system p h = refl
link_plain account_kinds.Sub None p h = refl
link_plain account_kinds.Sub (Some system) None h = name_plain system h
link_plain account_kinds.Sub (Some system) (Some p) h = cc h
link_plain account_kinds.Tech system None h = refl
link_plain account_kinds.Tech system (Some p) h = procedure_plain p

account_other : (a : AccountRecord) → is_kept_account a ≡ true → IsOther (account_record a)
unfolding end_line_len
account_other a h =
    let all = and_both (is_name a.name && is_name a.owner && is_cents a.opening) (is_kept_link a.kind a.system a.procedure) h in
    let front = and_both (is_name a.name && is_name a.owner) (is_cents a.opening) all.0 in
    let names = and_both (is_name a.name) (is_name a.owner) front.0 in
    record {
      plain = record {
        word = refl;
        plain = rw (name_plain a.name names.0, kind_plain a.kind, name_plain a.owner names.1, link_plain a.kind a.system a.procedure all.1, amount_plain a.opening (le_meant a.opening MAX_CENTS front.1)) refl;
      };
      other = λ tail. refl;
    }

reserve_other : (accounts : List AccountRecord) (x : Reserve) → is_kept_reserve accounts x ≡ true → IsOther (reserve_record accounts x)
unfolding end_line_len
reserve_other accounts x h =
    let all = and_both (is_name (name_of_account accounts x.account) && is_cents x.urgent && is_cents x.high) (is_numbered accounts x.account) h in
    let front = and_both (is_name (name_of_account accounts x.account) && is_cents x.urgent) (is_cents x.high) all.0 in
    let name = and_both (is_name (name_of_account accounts x.account)) (is_cents x.urgent) front.0 in
    record {
      plain = record {
        word = refl;
        plain = rw (name_plain (name_of_account accounts x.account) name.0, amount_plain x.urgent (le_meant x.urgent MAX_CENTS name.1), amount_plain x.high (le_meant x.high MAX_CENTS front.1)) refl;
      };
      other = λ tail. refl;
    }

stop_other : (t : ℕ) → is_time t ≡ true → IsOther (stop_record t)
unfolding end_line_len
stop_other t h = record { plain = record { word = refl; plain = rw (time_plain t) refl }; other = λ tail. refl }

entry_other : (e : Entry) → is_kept_entry e ≡ true → IsOther (entry_record e)
unfolding end_line_len
entry_other e h =
    let all = and_both (is_name e.debit && is_name e.credit) (is_cents e.amount) h in
    let names = and_both (is_name e.debit) (is_name e.credit) all.0 in
    record { plain = record { word = refl; plain = rw (name_plain e.debit names.0, name_plain e.credit names.1, amount_plain e.amount (le_meant e.amount MAX_CENTS all.1)) refl }; other = λ tail. refl }

body_other : (version : ℕ) (sender id : List ℕ) (b : Body) → is_plain sender ≡ true → is_plain id ≡ true → is_kept_body b ≡ true → IsOther (body_record version sender id b)
unfolding end_line_len
body_other version sender id (bodies.Batch p info early till count sum entries) s i h =
    let all = and_both (are_times info early till && nat_lt count 10000000 && is_cents sum) (list_all is_kept_entry entries) h in
    let front = and_both (are_times info early till && nat_lt count 10000000) (is_cents sum) all.0 in
    let count_few = lt_meant count 10000000 (and_both (are_times info early till) (nat_lt count 10000000) front.0).1 in
    record {
      plain = record {
        word = refl;
        plain = rw (s, i, procedure_plain p) (fields_plain version info early till count sum count_few (le_meant sum MAX_CENTS front.1));
      };
      other = λ tail. refl;
    }
body_other version sender id (bodies.Pay high debit credit amount) s i h =
    let all = and_both (is_name debit && is_name credit) (is_cents amount) h in
    let names = and_both (is_name debit) (is_name credit) all.0 in
    record {
      plain = record {
        word = refl;
        plain = rw (s, i, priority_plain high, name_plain debit names.0, name_plain credit names.1, amount_plain amount (le_meant amount MAX_CENTS all.1)) refl;
      };
      other = λ tail. refl;
    }
body_other version sender id (bodies.Liquidity debit credit amount) s i h =
    let all = and_both (is_name debit && is_name credit) (is_cents amount) h in
    let names = and_both (is_name debit) (is_name credit) all.0 in
    record {
      plain = record { word = refl; plain = rw (s, i, name_plain debit names.0, name_plain credit names.1, amount_plain amount (le_meant amount MAX_CENTS all.1)) refl };
      other = λ tail. refl;
    }
body_other version sender id (bodies.Object system batch) s i h =
    let both = and_both (is_name system) (is_id batch) h in
    record { plain = record { word = refl; plain = rw (s, i, name_plain system both.0, id_plain batch both.1) refl }; other = λ tail. refl }
body_other version sender id (bodies.Confirm batch answer) s i h =
    record { plain = record { word = refl; plain = rw (s, i, id_plain batch h, answer_plain answer) refl }; other = λ tail. refl }
body_other version sender id (bodies.Cycle start) s i h = record { plain = record { word = refl; plain = rw (s, i, cycle_plain start) refl }; other = λ tail. refl }

pub entries_kept : (b : Body) → is_kept_body b ≡ true → list_all is_kept_entry (entries_in b) ≡ true
entries_kept (bodies.Batch p info early till count sum entries) h = (and_both _ (list_all is_kept_entry entries) h).1
entries_kept (bodies.Pay high debit credit amount) h = refl
entries_kept (bodies.Liquidity debit credit amount) h = refl
entries_kept (bodies.Object system batch) h = refl
entries_kept (bodies.Confirm batch answer) h = refl
entries_kept (bodies.Cycle start) h = refl

message_other : (version : ℕ) (m : Message) → is_kept_message m ≡ true → AllIn IsOther (message_records version m)
message_other version m h =
    let all = and_both (is_name m.sender && is_id m.id) (is_kept_body m.body) h in
    let texts = and_both (is_name m.sender) (is_id m.id) all.0 in
    (body_other version m.sender m.id m.body (name_plain m.sender texts.0) (id_plain m.id texts.1) all.1, all_in_map IsOther entry_record is_kept_entry entry_other (entries_in m.body) (entries_kept m.body all.1))

moments_other : (version : ℕ) (stops : List ℕ) (passed : ℕ) (ms : List Message) → list_all is_time stops ≡ true → list_all is_kept_message ms ≡ true → AllIn IsOther (moment_records version stops passed ms)
unfolding moment_records
moments_other version stops passed [] times h = all_in_map IsOther stop_record is_time stop_other _ (all_drop is_time passed stops times)
moments_other version stops passed (m ∷ ms) times h =
    let both = and_both (is_kept_message m) (list_all is_kept_message ms) h in
    all_in_append IsOther (map stop_record (slice_range stops passed m.round) ++ message_records version m) (moment_records version stops m.round ms)
    (all_in_append IsOther (map stop_record (slice_range stops passed m.round)) (message_records version m)
    (all_in_map IsOther stop_record is_time stop_other _ (all_take is_time (m.round - passed) (drop passed stops) (all_drop is_time passed stops times)))
    (message_other version m both.0))
    (moments_other version stops m.round ms times both.1)

inner_other : (day : Day) → IsKept day → AllIn IsOther (inner_records day)
unfolding inner_records
inner_other day k =
    let moments = moment_records day.version day.stops 0 day.messages in
    let kept = map (reserve_record day.accounts) day.reserves in
    all_in_append IsOther (map system_record day.systems) (map account_record day.accounts ++ (kept ++ moments))
    (all_in_map IsOther system_record is_kept_system system_other day.systems k.systems)
    (all_in_append IsOther (map account_record day.accounts) (kept ++ moments)
    (all_in_map IsOther account_record is_kept_account account_other day.accounts k.accounts)
    (all_in_append IsOther kept moments
    (all_in_map IsOther (reserve_record day.accounts) (is_kept_reserve day.accounts) (reserve_other day.accounts) day.reserves k.reserves)
    (moments_other day.version day.stops 0 day.messages k.stops k.messages)))

version_other : (third : Bool) → IsOther (codes "VER" ∷ (if third then codes "3" else codes "2") ∷ [])
unfolding end_line_len
version_other true = record { plain = record { word = refl; plain = refl }; other = λ tail. refl }
version_other false = record { plain = record { word = refl; plain = refl }; other = λ tail. refl }

-- all lines but the last
versions_other : (version : ℕ) → AllIn IsOther (version_records version)
unfolding version_records end_line_len
versions_other version =
    elim (begins_with_ver version) as (λ b. AllIn IsOther (if b then version_record version ∷ [] else [])) [ true ↦ (version_other (is_third version), tt) | false ↦ tt ]

pub lines_other : (day : Day) → IsKept day → AllIn IsOther (version_records day.version ++ day_record day.date ∷ inner_records day)
lines_other day k =
    all_in_append IsOther (version_records day.version) (day_record day.date ∷ inner_records day) (versions_other day.version) (day_other day.date, inner_other day k)
