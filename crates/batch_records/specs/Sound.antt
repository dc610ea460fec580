-- Which days are sound: what every day that was read keeps.
use Rattle.std.specs.Prelude.{ℕ, ◌+◌, ◌^◌, Bool, true, false, not, ◌&&◌, ◌||◌, List, [], ◌∷◌, Option, Some, None, nat_eq, nat_lt, nat_le, length, sum_by, is_none, is_some}
use Rattle.std.specs.List.{list_all, list_any}
use Rattle.cash_amounts.specs.declared.cents.TheConstants.{MAX_CENTS}
use Rattle.cash_amounts.specs.declared.limits.TheConstants.{MAX_ENTRIES}
use Rattle.cash_amounts.specs.declared.records.AccountRecord.{AccountRecord}
use Rattle.cash_amounts.specs.declared.records.SystemRecord.{SystemRecord}
use Rattle.cash_amounts.specs.declared.records.Procedure.{Procedure}
use Rattle.cash_amounts.specs.declared.records.Procedure.TheVariants.{A, B}
use Rattle.cash_amounts.specs.Kinds.{is_dca}
use Rattle.cash_amounts.specs.Names.{is_name, is_id}
use Rattle.cash_amounts.specs.Numbers.{numbered}
use Rattle.cash_amounts.specs.SoundSetup.{sound_setup}
use Rattle.cash_amounts.specs.Tests.{some_passes}
use Rattle.period_calendar.specs.declared.time.TheConstants.{MIDNIGHT}
use Rattle.period_calendar.specs.Calendar.{CivilDay}
use Rattle.period_calendar.specs.Closing.{is_open}
use Rattle.batch_records.specs.Versions.{has_labels, is_version, most_entries, most_entries_of_day, most_messages}
use Rattle.batch_records.specs.DayRecord.{Day}
use Rattle.batch_records.specs.declared.day.Message.{Message}
use Rattle.batch_records.specs.declared.day.Entry.{Entry}
use Rattle.batch_records.specs.declared.day.Reserve.{Reserve}
use Rattle.batch_records.specs.declared.day.Body.{Body}
use Rattle.batch_records.specs.declared.day.Body.TheVariants as bodies

-- 0.01 to 99999999999.99
abbrev pub is_amount : ℕ → Bool
is_amount cents = nat_lt 0 cents && nat_lt cents (10 ^ 13)

abbrev pub is_time_or_none : Option ℕ → Bool
is_time_or_none None = true
is_time_or_none (Some t) = nat_le t MIDNIGHT

-- the times that a batch states
abbrev pub are_times : Option ℕ → Option ℕ → Option ℕ → Bool
are_times info from till = is_time_or_none info && is_time_or_none from && is_time_or_none till

abbrev pub is_sound_body : Body → Bool
is_sound_body (bodies.Batch p info from till count sum entries) =
    are_times info from till && nat_le sum MAX_CENTS && nat_le (length entries) MAX_ENTRIES && list_all (λ e. is_amount e.amount) entries
is_sound_body (bodies.Pay high debit credit amount) = is_amount amount
is_sound_body (bodies.Liquidity debit credit amount) = is_amount amount
is_sound_body _ = true

abbrev pub entries_in : Body → List Entry
entries_in (bodies.Batch p info from till count sum entries) = entries
entries_in _ = []

-- above the one before, after midnight and before the next
abbrev pub stops_rise : ℕ → List ℕ → Bool
stops_rise before [] = true
stops_rise before (stop ∷ stops) = nat_lt before stop && nat_lt stop MIDNIGHT && stops_rise stop stops

abbrev pub rounds_rise : ℕ → ℕ → List Message → Bool
rounds_rise last before [] = true
rounds_rise last before (m ∷ ms) = nat_le before m.round && nat_le m.round last && rounds_rise last m.round ms

-- ---- what a file can spell: an open date, names and identifications by their grammars, a procedure for each system, counts
-- of seven digits

abbrev pub is_open_date : CivilDay → Bool
is_open_date date = is_open date.year date.month date.day

abbrev pub lists_some : SystemRecord → Bool
lists_some r = list_any (λ listed. listed) r.procedures

abbrev pub is_spelled_account : AccountRecord → Bool
is_spelled_account r = is_name r.name && is_name r.owner && (is_none r.system || some_passes is_name r.system)

abbrev pub is_spelled_system : SystemRecord → Bool
is_spelled_system r = is_name r.name && lists_some r

abbrev pub is_spelled_entry : Entry → Bool
is_spelled_entry e = is_name e.debit && is_name e.credit

abbrev pub is_spelled_body : Body → Bool
is_spelled_body (bodies.Batch p info from till count sum entries) = nat_lt count (10 ^ 7) && list_all is_spelled_entry entries
is_spelled_body (bodies.Pay high debit credit amount) = is_name debit && is_name credit
is_spelled_body (bodies.Liquidity debit credit amount) = is_name debit && is_name credit
is_spelled_body (bodies.Object system batch) = is_name system && is_id batch
is_spelled_body (bodies.Confirm batch answer) = is_id batch
is_spelled_body (bodies.Cycle start) = true

abbrev pub is_spelled_message : Message → Bool
is_spelled_message m = is_name m.sender && is_id m.id && is_spelled_body m.body

abbrev pub is_spelled : Day → Bool
is_spelled day =
    is_open_date day.date
    && list_all is_spelled_account day.accounts
    && list_all is_spelled_system day.systems
    && list_all is_spelled_message day.messages

-- ---- what accounts keep: of each that keeps amounts, once, and no more than the largest amount; each is a dedicated cash account

abbrev pub is_account_number : List AccountRecord → ℕ → Bool
is_account_number accounts a = is_some (numbered accounts a)

abbrev pub is_dca_number : List AccountRecord → ℕ → Bool
is_dca_number accounts a = some_passes (λ r. is_dca r.kind) (numbered accounts a)

abbrev pub is_sound_reserve : List AccountRecord → Reserve → Bool
is_sound_reserve accounts x = is_dca_number accounts x.account && nat_le (x.urgent + x.high) MAX_CENTS

abbrev pub is_kept_among : List Reserve → Reserve → Bool
is_kept_among reserves x = list_any (λ y. nat_eq x.account y.account) reserves

abbrev pub are_kept_once : List Reserve → Bool
are_kept_once [] = true
are_kept_once (x ∷ xs) = not (is_kept_among xs x) && are_kept_once xs

abbrev pub are_sound_reserves : List AccountRecord → List Reserve → Bool
are_sound_reserves accounts reserves = list_all (is_sound_reserve accounts) reserves && are_kept_once reserves

-- ---- what the version of its file has it: the version is one, no batch has more entries than a day of it may have, and in a day of
-- version 1 no account keeps amounts and no batch has an earliest time; in one of another version only batches of A and B have one

abbrev pub has_few_entries : ℕ → Message → Bool
has_few_entries version m = nat_le (length (entries_in m.body)) (most_entries version)

abbrev pub may_wait : Procedure → Bool
may_wait A = true
may_wait B = true
may_wait _ = false

abbrev pub has_fit_earliest : ℕ → Body → Bool
has_fit_earliest version (bodies.Batch p info from till count sum entries) = is_none from || has_labels version && may_wait p
has_fit_earliest version _ = true

abbrev pub fits_version : Day → Bool
fits_version day =
    is_version day.version
    && list_all (has_few_entries day.version) day.messages
    && list_all (λ m. has_fit_earliest day.version m.body) day.messages
    && (has_labels day.version || nat_eq (length day.reserves) 0)
    && are_sound_reserves day.accounts day.reserves

-- ---- all together

abbrev pub is_sound : Day → Bool
is_sound day =
    sound_setup day.accounts day.systems
    && stops_rise 0 day.stops
    && rounds_rise (length day.stops) 0 day.messages
    && list_all (λ m. is_sound_body m.body) day.messages
    && nat_le (length day.messages) (most_messages day.version)
    && nat_le (sum_by (λ m. length (entries_in m.body)) day.messages) (most_entries_of_day day.version)
    && is_spelled day
    && fits_version day
