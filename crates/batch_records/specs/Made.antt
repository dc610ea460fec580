-- What the records of a list make together.
use Rattle.std.specs.Prelude.{ℕ, ◌+◌, ◌-◌, Bool, true, false, ◌&&◌, ◌||◌, if◌then◌else◌, List, [], ◌∷◌, length, filter_map, count_by, sum_by, Option, Some, None, unwrap_or, slice_get, ◌++◌, bytes_eq}
use Rattle.std.specs.List.{cons_option, list_all, list_any, position_from}
use Rattle.std.specs.Option.{option_and_then}
use Rattle.std.specs.Result.{result_ok}
use Rattle.cash_amounts.specs.declared.records.AccountRecord.{AccountRecord}
use Rattle.cash_amounts.specs.declared.records.SystemRecord.{SystemRecord}
use Rattle.cash_amounts.specs.declared.records.AccountKind.{AccountKind}
use Rattle.cash_amounts.specs.declared.records.AccountKind.TheVariants as account_kinds
use Rattle.cash_amounts.specs.declared.records.Procedure.{Procedure}
use Rattle.cash_amounts.specs.declared.records.Procedure.TheVariants as procedure
use Rattle.period_calendar.specs.Calendar.{CivilDay}
use Rattle.period_calendar.specs.Dates.{date_of_text}
use Rattle.period_calendar.specs.Times.{time_of_text}
use Rattle.batch_records.specs.Amounts.{amount_in}
use Rattle.batch_records.specs.CountText.{count_in}
use Rattle.batch_records.specs.Kinds.{account_kind_in, by_kind, is_message_kind}
use Rattle.batch_records.specs.Records.{Fields, field}
use Rattle.batch_records.specs.Versions.{count_field, from_text, info_text, sum_field, till_text}
use Rattle.batch_records.specs.Words.{is_high, is_start, is_yes, listed, procedure_named, technical_named, version_named}
use Rattle.batch_records.specs.declared.day.Body.{Body}
use Rattle.batch_records.specs.declared.day.Body.TheVariants as bodies
use Rattle.batch_records.specs.DayRecord.{Day, no_room}
use Rattle.batch_records.specs.declared.day.Entry.{Entry}
use Rattle.batch_records.specs.declared.day.Message.{Message}
use Rattle.batch_records.specs.declared.day.Reserve.{Reserve}
use Rattle.batch_records.specs.declared.kinds.RecordKind.{RecordKind}
use Rattle.batch_records.specs.declared.kinds.RecordKind.TheVariants as record_kinds
use Rattle.batch_records.specs.declared.so_far.SoFar.{SoFar}

-- ---- the version and the date

abbrev pub is_ver_kind : RecordKind → Bool
is_ver_kind record_kinds.Ver = true
is_ver_kind _ = false

abbrev pub is_ver : Fields → Bool
is_ver r = by_kind false (λ kind. is_ver_kind kind) r

-- the version of what stands after a record, and after records, where it is this one in front of them
abbrev pub version_behind : ℕ → Fields → ℕ
version_behind version r = if is_ver r then version_named (field r 1) else version

abbrev pub version_from : ℕ → List Fields → ℕ
version_from version [] = version
version_from version (r ∷ rest) = version_from (version_behind version r) rest

-- the version of records: the one that VER among them states, and else 1
unfoldable pub version_of : List Fields → ℕ
version_of records = version_from 1 records

abbrev pub is_day_kind : RecordKind → Bool
is_day_kind record_kinds.Day = true
is_day_kind _ = false

abbrev pub is_day : Fields → Bool
is_day r = by_kind false (λ kind. is_day_kind kind) r

abbrev pub date_in : Fields → Option CivilDay
date_in r = result_ok (date_of_text (field r 1))

-- the date that the first DAY states
abbrev pub date_of : List Fields → Option CivilDay
date_of [] = None
date_of (r ∷ rest) = if is_day r then date_in r else date_of rest

-- what stands for the date of records that state none, which are no day's
abbrev pub no_date : CivilDay
no_date = record { year = 0; month = 0; day = 0 }

-- ---- accounts

-- the system of a sub-account, and the procedure of a technical account
abbrev pub system_linked : AccountKind → List ℕ → Option (List ℕ)
system_linked account_kinds.Sub link = Some link
system_linked _ link = None

abbrev pub procedure_linked : AccountKind → List ℕ → Option Procedure
procedure_linked account_kinds.Tech link = technical_named link
procedure_linked _ link = None

-- the account that a record states
abbrev pub account_from : Fields → AccountRecord
account_from r = record {
  name = field r 1;
  kind = account_kind_in r;
  owner = field r 3;
  system = system_linked (account_kind_in r) (field r 4);
  procedure = procedure_linked (account_kind_in r) (field r 4);
  opening = amount_in (field r 5);
}

abbrev pub account_in : RecordKind → Fields → Option AccountRecord
account_in record_kinds.Acc r = Some (account_from r)
account_in _ r = None

abbrev pub account_of : Fields → Option AccountRecord
account_of r = by_kind None (λ kind. account_in kind r) r

unfoldable pub accounts_of : List Fields → List AccountRecord
accounts_of records = filter_map account_of records

-- the number of the account of this name, which counts from 1
abbrev pub number_named : List AccountRecord → List ℕ → Option ℕ
number_named accounts name = position_from (λ a. bytes_eq a.name name) 1 accounts

-- ---- what accounts keep

-- what a record states, with these accounts before it
abbrev pub reserve_from : List AccountRecord → Fields → Reserve
reserve_from accounts r = record {
  account = unwrap_or (number_named accounts (field r 1)) 0;
  urgent = amount_in (field r 2);
  high = amount_in (field r 3);
}

abbrev pub reserve_in : List AccountRecord → RecordKind → Fields → Option Reserve
reserve_in accounts record_kinds.Res r = Some (reserve_from accounts r)
reserve_in accounts _ r = None

abbrev pub reserve_of : List AccountRecord → Fields → Option Reserve
reserve_of accounts r = by_kind None (λ kind. reserve_in accounts kind r) r

-- what records state that have these accounts before them
unfoldable pub reserves_from : List AccountRecord → List Fields → List Reserve
reserves_from accounts [] = []
reserves_from accounts (r ∷ rest) = cons_option (reserve_of accounts r) (reserves_from (accounts ++ accounts_of (r ∷ [])) rest)

-- ---- systems

abbrev pub system_from : Fields → SystemRecord
system_from r = record { name = field r 1; procedures = listed (field r 2) }

abbrev pub system_in : RecordKind → Fields → Option SystemRecord
system_in record_kinds.As r = Some (system_from r)
system_in _ r = None

abbrev pub system_of : Fields → Option SystemRecord
system_of r = by_kind None (λ kind. system_in kind r) r

unfoldable pub systems_of : List Fields → List SystemRecord
systems_of records = filter_map system_of records

-- ---- stops

abbrev pub stop_from : Fields → ℕ
stop_from r = unwrap_or (time_of_text (field r 1)) 0

abbrev pub stop_in : RecordKind → Fields → Option ℕ
stop_in record_kinds.Tim r = Some (stop_from r)
stop_in _ r = None

abbrev pub stop_of : Fields → Option ℕ
stop_of r = by_kind None (λ kind. stop_in kind r) r

unfoldable pub stops_of : List Fields → List ℕ
stops_of records = filter_map stop_of records

-- the last of some stops, midnight where there is none
abbrev pub last_stop : List ℕ → ℕ
last_stop stops = unwrap_or (slice_get stops (length stops - 1)) 0

-- ---- entries

abbrev pub entry_from : Fields → Entry
entry_from r = record { debit = field r 1; credit = field r 2; amount = amount_in (field r 3) }

abbrev pub is_entry_kind : RecordKind → Bool
is_entry_kind record_kinds.Ent = true
is_entry_kind _ = false

abbrev pub is_entry : Fields → Bool
is_entry r = by_kind false (λ kind. is_entry_kind kind) r

-- the entries at the front of records, which belong to the batch before them
abbrev pub entries_at : List Fields → List Entry
entries_at [] = []
entries_at (r ∷ rest) = if is_entry r then entry_from r ∷ entries_at rest else []

abbrev pub is_batch_kind : RecordKind → Bool
is_batch_kind record_kinds.Bat = true
is_batch_kind _ = false

abbrev pub is_batch : Fields → Bool
is_batch r = by_kind false (λ kind. is_batch_kind kind) r

-- whether records end with a batch and its entries
abbrev pub ends_in_batch : List Fields → Bool
ends_in_batch [] = false
ends_in_batch (r ∷ rest) = (is_batch r && list_all is_entry rest) || ends_in_batch rest

-- ---- messages

-- the procedure of a batch; which one stands for another word doesn't matter, since that word is told
abbrev pub procedure_in : Fields → Procedure
procedure_in r = unwrap_or (procedure_named (field r 3)) procedure.E

-- the time of a text that is stated
abbrev pub time_in : Option (List ℕ) → Option ℕ
time_in text = option_and_then time_of_text text

-- the message of a record with this many stops before it, which asks for this
abbrev pub message_from : ℕ → Body → Fields → Message
message_from round asked r = record { round = round; sender = field r 1; id = field r 2; body = asked }

-- what a record states with this many stops before it: a batch of this version with these entries after it, a payment, a
-- transfer, an objection, an answer, a cycle's start or end
abbrev pub batch_from : ℕ → ℕ → List Entry → Fields → Message
batch_from version round entries r =
    message_from round (bodies.Batch (procedure_in r) (time_in (info_text version r)) (time_in (from_text version r)) (time_in (till_text version r)) (count_in (count_field version r)) (amount_in (sum_field version r)) entries) r

abbrev pub payment_from : ℕ → Fields → Message
payment_from round r = message_from round (bodies.Pay (is_high (field r 3)) (field r 4) (field r 5) (amount_in (field r 6))) r

abbrev pub transfer_from : ℕ → Fields → Message
transfer_from round r = message_from round (bodies.Liquidity (field r 3) (field r 4) (amount_in (field r 5))) r

abbrev pub objection_from : ℕ → Fields → Message
objection_from round r = message_from round (bodies.Object (field r 3) (field r 4)) r

abbrev pub answer_from : ℕ → Fields → Message
answer_from round r = message_from round (bodies.Confirm (field r 3) (is_yes (field r 4))) r

abbrev pub cycle_from : ℕ → Fields → Message
cycle_from round r = message_from round (bodies.Cycle (is_start (field r 3))) r

abbrev pub message_in : ℕ → ℕ → List Entry → RecordKind → Fields → Option Message
message_in version round entries record_kinds.Bat r = Some (batch_from version round entries r)
message_in version round entries record_kinds.Pay r = Some (payment_from round r)
message_in version round entries record_kinds.Liq r = Some (transfer_from round r)
message_in version round entries record_kinds.Obj r = Some (objection_from round r)
message_in version round entries record_kinds.Cnf r = Some (answer_from round r)
message_in version round entries record_kinds.Cyc r = Some (cycle_from round r)
message_in version round entries _ r = None

abbrev pub message_of : ℕ → ℕ → List Entry → Fields → Option Message
message_of version round entries r = by_kind None (λ kind. message_in version round entries kind r) r

-- the messages of records that have this version and this many stops before them
unfoldable pub messages_from : ℕ → ℕ → List Fields → List Message
messages_from version round [] = []
messages_from version round (r ∷ rest) =
    cons_option (message_of version round (entries_at rest) r) (messages_from (version_behind version r) (round + length (stops_of (r ∷ []))) rest)

-- ---- the day, and what the records come to for the record after them

abbrev pub day_made : List Fields → Day
day_made records = record {
  version = version_of records;
  date = unwrap_or (date_of records) no_date;
  accounts = accounts_of records;
  systems = systems_of records;
  reserves = reserves_from [] records;
  stops = stops_of records;
  messages = messages_from 1 0 records;
  room = no_room;
}

-- a record after which neither a system nor an account nor what one keeps may stand
abbrev pub is_late_kind : RecordKind → Bool
is_late_kind record_kinds.Tim = true
is_late_kind kind = is_message_kind kind

abbrev pub is_late : Fields → Bool
is_late r = by_kind false (λ kind. is_late_kind kind) r

abbrev pub is_end_kind : RecordKind → Bool
is_end_kind record_kinds.End = true
is_end_kind _ = false

abbrev pub is_end : Fields → Bool
is_end r = by_kind false (λ kind. is_end_kind kind) r

unfoldable pub so_far_of : List Fields → SoFar
so_far_of records = record {
  version = version_of records;
  date = date_of records;
  accounts = accounts_of records;
  systems = systems_of records;
  reserves = reserves_from [] records;
  stops = stops_of records;
  messages = messages_from 1 0 records;
  opened = sum_by (λ a. a.opening) (accounts_of records);
  started = list_any is_day records;
  begun = list_any is_late records;
  ended = list_any is_end records;
  in_batch = ends_in_batch records;
  entries = count_by is_entry records;
}

-- the day with this date of what records came to, and the one with their own date
abbrev pub day_on : CivilDay → SoFar → Day
day_on date s = record { version = s.version; date = date; accounts = s.accounts; systems = s.systems; reserves = s.reserves; stops = s.stops; messages = s.messages; room = no_room }

abbrev pub day_in : SoFar → Day
day_in s = day_on (unwrap_or s.date no_date) s
