-- The records that state a day, in the order in which they are written, and their text, in the form of the day's version.
use Rattle.std.specs.Prelude.{ℕ, Bool, true, false, if◌then◌else◌, List, [], ◌∷◌, ◌++◌, map, drop, get_or, Option, Some, None, unwrap_or, codes, decimal}
use Rattle.std.specs.List.{flat_map, slice_range}
use Rattle.std.specs.Option.{option_map_or}
use Rattle.cash_amounts.specs.AmountText.{amount_text}
use Rattle.cash_amounts.specs.declared.records.AccountKind.{AccountKind}
use Rattle.cash_amounts.specs.declared.records.AccountKind.TheVariants as account_kinds
use Rattle.cash_amounts.specs.declared.records.AccountRecord.{AccountRecord}
use Rattle.cash_amounts.specs.declared.records.Procedure.{Procedure}
use Rattle.cash_amounts.specs.declared.records.Procedure.TheVariants as procedures
use Rattle.cash_amounts.specs.declared.records.SystemRecord.{SystemRecord}
use Rattle.outside_io.specs.TextLine.{text_line}
use Rattle.period_calendar.specs.Calendar.{CivilDay}
use Rattle.period_calendar.specs.MomentTexts.{date_text, time_text}
use Rattle.batch_records.specs.Records.{Fields}
use Rattle.batch_records.specs.Sound.{entries_in}
use Rattle.batch_records.specs.Versions.{begins_with_ver, from_label, has_labels, info_label, is_third, till_label}
use Rattle.batch_records.specs.declared.day.Body.{Body}
use Rattle.batch_records.specs.declared.day.Body.TheVariants as bodies
use Rattle.batch_records.specs.DayRecord.{Day}
use Rattle.batch_records.specs.declared.day.Entry.{Entry}
use Rattle.batch_records.specs.declared.day.Message.{Message}
use Rattle.batch_records.specs.declared.day.Reserve.{Reserve}
use Rattle.batch_records.specs.Numbers.{numbered}

-- ---- the words of fields

abbrev pub kind_word : AccountKind → List ℕ
kind_word account_kinds.Dca = codes "DCA"
kind_word account_kinds.Sub = codes "SUB"
kind_word account_kinds.Tech = codes "TEC"
kind_word account_kinds.Fund = codes "FND"

abbrev pub procedure_word : Procedure → List ℕ
procedure_word procedures.A = codes "A"
procedure_word procedures.B = codes "B"
procedure_word procedures.C = codes "C"
procedure_word procedures.D = codes "D"
procedure_word procedures.E = codes "E"

abbrev pub letter_if : Bool → ℕ → List ℕ
letter_if true letter = letter ∷ []
letter_if false letter = []

-- the letters of those of A to E that are listed
unfoldable pub procedure_letters : List Bool → List ℕ
procedure_letters listed =
    letter_if (get_or listed 0 false) 65 ++ letter_if (get_or listed 1 false) 66 ++ letter_if (get_or listed 2 false) 67
    ++ letter_if (get_or listed 3 false) 68 ++ letter_if (get_or listed 4 false) 69

-- a procedure, empty where there is none
abbrev pub procedure_or_empty : Option Procedure → List ℕ
procedure_or_empty None = []
procedure_or_empty (Some p) = procedure_word p

-- the system of a sub-account, the procedure of a technical account, and else nothing
abbrev pub link_text : AccountKind → Option (List ℕ) → Option Procedure → List ℕ
link_text account_kinds.Sub system p = unwrap_or system []
link_text account_kinds.Tech system p = procedure_or_empty p
link_text _ system p = []

-- a time, empty where there is none
abbrev pub time_or_empty : Option ℕ → List ℕ
time_or_empty None = []
time_or_empty (Some t) = time_text t

abbrev pub priority_word : Bool → List ℕ
priority_word true = codes "H"
priority_word false = codes "N"

abbrev pub answer_word : Bool → List ℕ
answer_word true = codes "Y"
answer_word false = codes "N"

abbrev pub cycle_word : Bool → List ℕ
cycle_word true = codes "START"
cycle_word false = codes "END"

-- ---- the records

abbrev pub version_word : ℕ → List ℕ
version_word version = if is_third version then codes "3" else codes "2"

abbrev pub version_record : ℕ → Fields
version_record version = codes "VER" ∷ version_word version ∷ []

-- VER in a day of version 2 or 3, and else nothing
unfoldable pub version_records : ℕ → List Fields
version_records version = if begins_with_ver version then version_record version ∷ [] else []

abbrev pub day_record : CivilDay → Fields
day_record date = codes "DAY" ∷ date_text date ∷ []

abbrev pub system_record : SystemRecord → Fields
system_record s = codes "AS" ∷ s.name ∷ procedure_letters s.procedures ∷ []

abbrev pub account_record : AccountRecord → Fields
account_record a = codes "ACC" ∷ a.name ∷ kind_word a.kind ∷ a.owner ∷ link_text a.kind a.system a.procedure ∷ amount_text a.opening ∷ []

-- the name of the account of a number, which counts from 1
abbrev pub name_of_account : List AccountRecord → ℕ → List ℕ
name_of_account accounts a = option_map_or (λ r. r.name) (numbered accounts a) []

-- what an account keeps, where the accounts are these
abbrev pub reserve_record : List AccountRecord → Reserve → Fields
reserve_record accounts x = codes "RES" ∷ name_of_account accounts x.account ∷ amount_text x.urgent ∷ amount_text x.high ∷ []

abbrev pub stop_record : ℕ → Fields
stop_record t = codes "TIM" ∷ time_text t ∷ []

abbrev pub entry_record : Entry → Fields
entry_record e = codes "ENT" ∷ e.debit ∷ e.credit ∷ amount_text e.amount ∷ []

-- a time of a batch with labels, after its label, and no field where it is none
abbrev pub time_field : List ℕ → Option ℕ → Fields
time_field label None = []
time_field label (Some t) = (label ++ time_text t) ∷ []

-- the times of a batch with labels
abbrev pub time_fields : Option ℕ → Option ℕ → Option ℕ → Fields
time_fields info from till = time_field info_label info ++ (time_field from_label from ++ time_field till_label till)

-- what stands after the procedure of a batch of a version; a batch of version 1 has no field for its earliest time
unfoldable pub batch_fields : ℕ → Option ℕ → Option ℕ → Option ℕ → ℕ → ℕ → Fields
batch_fields version info from till count sum =
    if has_labels version
    then decimal count ∷ amount_text sum ∷ time_fields info from till
    else time_or_empty info ∷ time_or_empty till ∷ decimal count ∷ amount_text sum ∷ []

-- what a sender states under an identification, in a day of this version
abbrev pub body_record : ℕ → List ℕ → List ℕ → Body → Fields
body_record version sender id (bodies.Batch p info from till count sum entries) = codes "BAT" ∷ sender ∷ id ∷ procedure_word p ∷ batch_fields version info from till count sum
body_record version sender id (bodies.Pay high debit credit amount) = codes "PAY" ∷ sender ∷ id ∷ priority_word high ∷ debit ∷ credit ∷ amount_text amount ∷ []
body_record version sender id (bodies.Liquidity debit credit amount) = codes "LIQ" ∷ sender ∷ id ∷ debit ∷ credit ∷ amount_text amount ∷ []
body_record version sender id (bodies.Object system batch) = codes "OBJ" ∷ sender ∷ id ∷ system ∷ batch ∷ []
body_record version sender id (bodies.Confirm batch answer) = codes "CNF" ∷ sender ∷ id ∷ batch ∷ answer_word answer ∷ []
body_record version sender id (bodies.Cycle start) = codes "CYC" ∷ sender ∷ id ∷ cycle_word start ∷ []

-- a message, and directly after it its entries
abbrev pub message_records : ℕ → Message → List Fields
message_records version m = body_record version m.sender m.id m.body ∷ map entry_record (entries_in m.body)

abbrev pub end_record : Fields
end_record = codes "END" ∷ []

-- ---- their texts

abbrev pub system_text : SystemRecord → List ℕ
system_text s = text_line (system_record s)

abbrev pub account_text : AccountRecord → List ℕ
account_text a = text_line (account_record a)

abbrev pub reserve_text : List AccountRecord → Reserve → List ℕ
reserve_text accounts x = text_line (reserve_record accounts x)

abbrev pub stop_text : ℕ → List ℕ
stop_text t = text_line (stop_record t)

abbrev pub entry_text : Entry → List ℕ
entry_text e = text_line (entry_record e)

abbrev pub message_text : ℕ → Message → List ℕ
message_text version m = text_line (body_record version m.sender m.id m.body) ++ flat_map entry_text (entries_in m.body)

-- ---- their order

-- The messages, each after the stops of its round, where so many stops stand before them already; and after the messages
-- the stops that are left.
unfoldable pub moment_records : ℕ → List ℕ → ℕ → List Message → List Fields
moment_records version stops passed [] = map stop_record (drop passed stops)
moment_records version stops passed (m ∷ ms) =
    (map stop_record (slice_range stops passed m.round) ++ message_records version m) ++ moment_records version stops m.round ms

-- the records between DAY and END: all systems, all accounts, all that they keep, and then messages and stops by round
unfoldable pub inner_records : Day → List Fields
inner_records day =
    map system_record day.systems ++ (map account_record day.accounts
    ++ (map (reserve_record day.accounts) day.reserves ++ moment_records day.version day.stops 0 day.messages))

-- all records of a day
unfoldable pub written_records : Day → List Fields
written_records day = version_records day.version ++ day_record day.date ∷ (inner_records day ++ end_record ∷ [])

-- each record as one line
unfoldable pub day_text : Day → List ℕ
day_text day = flat_map text_line (written_records day)
