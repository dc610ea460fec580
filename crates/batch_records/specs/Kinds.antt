-- The kinds of records, and which fields each kind has. What a batch has by the version of its day is in `Versions`. RES is a kind of
-- versions 2 and 3 alone.
use Rattle.std.specs.Prelude.{ℕ, Bool, true, false, not, ◌&&◌, ◌||◌, if◌then◌else◌, List, [], ◌∷◌, ◌==◌, length, Option, Some, None, Result, Ok, Err, is_none, unwrap_or, codes, bytes_eq}
use Rattle.std.specs.List.{list_any}
use Rattle.std.specs.Option.{option_map_or}
use Rattle.cash_amounts.specs.Names.{is_id, is_name}
use Rattle.cash_amounts.specs.declared.records.AccountKind.{AccountKind}
use Rattle.cash_amounts.specs.declared.records.AccountKind.TheVariants as account_kinds
use Rattle.period_calendar.specs.Calendar.{CivilDay}
use Rattle.period_calendar.specs.Dates.{date_of_text}
use Rattle.period_calendar.specs.declared.date.DateFault.{DateFault}
use Rattle.period_calendar.specs.declared.date.DateFault.TheVariants as date_faults
use Rattle.batch_records.specs.Amounts.{cents_of}
use Rattle.batch_records.specs.CountText.{count_of}
use Rattle.batch_records.specs.Records.{Fields, field}
use Rattle.batch_records.specs.Versions.{count_field, has_stated_times, has_labels, sum_field}
use Rattle.batch_records.specs.Sound.{is_amount}
use Rattle.batch_records.specs.Words.{account_kind_named, is_answer, is_cycle, is_priority, is_procedures, is_version_word, procedure_named, technical_named}
use Rattle.batch_records.specs.declared.kinds.RecordKind.{RecordKind}
use Rattle.batch_records.specs.declared.kinds.RecordKind.TheVariants as record_kinds

-- the kind that a word names
unfoldable pub kind_named : List ℕ → Option RecordKind
kind_named word =
    if bytes_eq word (codes "VER") then Some record_kinds.Ver
    else if bytes_eq word (codes "DAY") then Some record_kinds.Day
    else if bytes_eq word (codes "AS") then Some record_kinds.As
    else if bytes_eq word (codes "ACC") then Some record_kinds.Acc
    else if bytes_eq word (codes "BAT") then Some record_kinds.Bat
    else if bytes_eq word (codes "ENT") then Some record_kinds.Ent
    else if bytes_eq word (codes "PAY") then Some record_kinds.Pay
    else if bytes_eq word (codes "LIQ") then Some record_kinds.Liq
    else if bytes_eq word (codes "OBJ") then Some record_kinds.Obj
    else if bytes_eq word (codes "CNF") then Some record_kinds.Cnf
    else if bytes_eq word (codes "CYC") then Some record_kinds.Cyc
    else if bytes_eq word (codes "TIM") then Some record_kinds.Tim
    else if bytes_eq word (codes "END") then Some record_kinds.End
    else if bytes_eq word (codes "RES") then Some record_kinds.Res
    else None

abbrev pub kind_of : Fields → Option RecordKind
kind_of r = kind_named (field r 0)

-- what holds of a record by its kind, and without a kind
abbrev pub by_kind : {A : Type 0} → A → (RecordKind → A) → Fields → A
by_kind d f r = option_map_or f (kind_of r) d

-- whether a record is a message: a batch, a payment, a transfer, an objection, an answer, a cycle's start or end
abbrev pub is_message_kind : RecordKind → Bool
is_message_kind record_kinds.Bat = true
is_message_kind record_kinds.Pay = true
is_message_kind record_kinds.Liq = true
is_message_kind record_kinds.Obj = true
is_message_kind record_kinds.Cnf = true
is_message_kind record_kinds.Cyc = true
is_message_kind _ = false

-- how many fields a record has, its kind among them; of a batch, in a day of version 1
unfoldable pub fields_in : RecordKind → ℕ
fields_in record_kinds.Ver = 2
fields_in record_kinds.Day = 2
fields_in record_kinds.As = 3
fields_in record_kinds.Acc = 6
fields_in record_kinds.Res = 4
fields_in record_kinds.Bat = 8
fields_in record_kinds.Ent = 4
fields_in record_kinds.Pay = 7
fields_in record_kinds.Liq = 6
fields_in record_kinds.Obj = 5
fields_in record_kinds.Cnf = 5
fields_in record_kinds.Cyc = 4
fields_in record_kinds.Tim = 2
fields_in record_kinds.End = 1

-- whether a record of a day of this version has other fields than its kind; RES in a day of version 1 is of no kind
unfoldable pub has_other_fields : ℕ → RecordKind → Fields → Bool
has_other_fields version record_kinds.Bat r = not (if has_labels version then has_stated_times r else length r == fields_in record_kinds.Bat)
has_other_fields version record_kinds.Res r = has_labels version && not (length r == fields_in record_kinds.Res)
has_other_fields version kind r = not (length r == fields_in kind)

-- the kind of an account; which one stands for another word doesn't matter, since that word is told before all that the kind
-- decides
abbrev pub account_kind_in : Fields → AccountKind
account_kind_in r = unwrap_or (account_kind_named (field r 2)) account_kinds.Dca

-- the link of a technical account is the letter of its procedure
unfoldable pub has_other_link : AccountKind → Fields → Bool
has_other_link account_kinds.Tech r = is_none (technical_named (field r 4))
has_other_link _ r = false

-- whether a field that has to be one of some words is none of them; RES itself is no word in a day of version 1
unfoldable pub has_other_word : ℕ → RecordKind → Fields → Bool
has_other_word version record_kinds.Ver r = not (is_version_word (field r 1))
has_other_word version record_kinds.As r = not (is_procedures (field r 2))
has_other_word version record_kinds.Acc r = is_none (account_kind_named (field r 2)) || has_other_link (account_kind_in r) r
has_other_word version record_kinds.Res r = not (has_labels version)
has_other_word version record_kinds.Bat r = is_none (procedure_named (field r 3))
has_other_word version record_kinds.Pay r = not (is_priority (field r 3))
has_other_word version record_kinds.Cnf r = not (is_answer (field r 4))
has_other_word version record_kinds.Cyc r = not (is_cycle (field r 3))
has_other_word version _ r = false

-- no date, or none of the years whose closing days are known
abbrev pub is_no_date : Result CivilDay DateFault → Bool
is_no_date (Ok day) = false
is_no_date (Err date_faults.Closed) = false
is_no_date (Err _) = true

abbrev pub is_closing_date : Result CivilDay DateFault → Bool
is_closing_date (Err date_faults.Closed) = true
is_closing_date _ = false

unfoldable pub has_bad_date : RecordKind → Fields → Bool
has_bad_date record_kinds.Day r = is_no_date (date_of_text (field r 1))
has_bad_date _ r = false

unfoldable pub has_closing_date : RecordKind → Fields → Bool
has_closing_date record_kinds.Day r = is_closing_date (date_of_text (field r 1))
has_closing_date _ r = false

-- the link of a sub-account is the name of a system
abbrev pub link_names : AccountKind → Fields → List (List ℕ)
link_names account_kinds.Sub r = field r 4 ∷ []
link_names _ r = []

-- the fields that are names: of a system; of an account, its owner and its link; of an account that keeps amounts; of a sender, two
-- accounts, or the system of a batch
abbrev pub name_fields : RecordKind → Fields → List (List ℕ)
name_fields record_kinds.As r = field r 1 ∷ []
name_fields record_kinds.Acc r = field r 1 ∷ field r 3 ∷ link_names (account_kind_in r) r
name_fields record_kinds.Res r = field r 1 ∷ []
name_fields record_kinds.Bat r = field r 1 ∷ []
name_fields record_kinds.Ent r = field r 1 ∷ field r 2 ∷ []
name_fields record_kinds.Pay r = field r 1 ∷ field r 4 ∷ field r 5 ∷ []
name_fields record_kinds.Liq r = field r 1 ∷ field r 3 ∷ field r 4 ∷ []
name_fields record_kinds.Obj r = field r 1 ∷ field r 3 ∷ []
name_fields record_kinds.Cnf r = field r 1 ∷ []
name_fields record_kinds.Cyc r = field r 1 ∷ []
name_fields _ r = []

unfoldable pub has_bad_name : RecordKind → Fields → Bool
has_bad_name kind r = list_any (λ f. not (is_name f)) (name_fields kind r)

-- the fields that are identifications
abbrev pub id_fields : RecordKind → Fields → List (List ℕ)
id_fields record_kinds.Bat r = field r 2 ∷ []
id_fields record_kinds.Pay r = field r 2 ∷ []
id_fields record_kinds.Liq r = field r 2 ∷ []
id_fields record_kinds.Obj r = field r 2 ∷ field r 4 ∷ []
id_fields record_kinds.Cnf r = field r 2 ∷ field r 3 ∷ []
id_fields record_kinds.Cyc r = field r 2 ∷ []
id_fields _ r = []

unfoldable pub has_bad_id : RecordKind → Fields → Bool
has_bad_id kind r = list_any (λ f. not (is_id f)) (id_fields kind r)

-- a batch has a count
unfoldable pub has_bad_number : ℕ → RecordKind → Fields → Bool
has_bad_number version record_kinds.Bat r = is_none (count_of (count_field version r))
has_bad_number version _ r = false

-- an amount that a message may move
abbrev pub is_paid : Option ℕ → Bool
is_paid None = false
is_paid (Some n) = is_amount n

unfoldable pub has_bad_amount : ℕ → RecordKind → Fields → Bool
has_bad_amount version record_kinds.Acc r = is_none (cents_of (field r 5))
has_bad_amount version record_kinds.Res r = is_none (cents_of (field r 2)) || is_none (cents_of (field r 3))
has_bad_amount version record_kinds.Bat r = is_none (cents_of (sum_field version r))
has_bad_amount version record_kinds.Ent r = not (is_paid (cents_of (field r 3)))
has_bad_amount version record_kinds.Pay r = not (is_paid (cents_of (field r 6)))
has_bad_amount version record_kinds.Liq r = not (is_paid (cents_of (field r 5)))
has_bad_amount version _ r = false
