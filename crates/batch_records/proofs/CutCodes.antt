-- A record has the code of what is kept of it.
use Rattle.std.proofs.Common.{◌≡◌, ◌∙◌, ◌+◌, ◌<◌, ◌≤◌, ◌⊎◌, ℕ, Bool, true, false, not, cond, List, [], ◌∷◌, Option, Some, None, length, refl, sym, ap, arith, inl, inr}
use Rattle.std.specs.Prelude.{◌==◌, ◌&&◌, ◌||◌, if◌then◌else◌, nat_le, nat_lt, bytes_eq, find, is_none, unwrap_or, Err}
use Rattle.std.specs.List.{list_any}
use Rattle.std.proofs.lemmas.Bool.{cases_Bool, ne_eqb}
use Rattle.std.proofs.lemmas.List.{length-take-le, take_all}
use Rattle.cash_amounts.specs.Names.{is_id, is_name}
use Rattle.cash_amounts.specs.SoundSetup.{is_fund_for, is_listed, is_system_name, is_technical_for, lists, owns_dca}
use Rattle.cash_amounts.specs.Tests.{some_passes}
use Rattle.cash_amounts.specs.declared.cents.TheConstants.{MAX_CENTS}
use Rattle.cash_amounts.specs.declared.limits.TheConstants.{MAX_ACCOUNTS}
use Rattle.cash_amounts.specs.declared.records.AccountKind.{AccountKind}
use Rattle.cash_amounts.specs.declared.records.AccountKind.TheVariants as account_kinds
use Rattle.cash_amounts.specs.declared.records.Procedure.TheVariants as procedures
use Rattle.period_calendar.specs.Dates.{date_of_text}
use Rattle.period_calendar.specs.Times.{time_of_text}
use Rattle.period_calendar.specs.declared.date.DateFault.TheVariants as date_faults
use Rattle.record_rows.specs.Rows.{kept_row}
use Rattle.batch_records.specs.Amounts.{amount_in, cents_of}
use Rattle.batch_records.specs.Codes.{codes_in_order, first_code, has_bad_setup, has_bad_time, is_dca_named, is_kept_already, is_next_stop, is_out_of_place, is_past_limit, is_role_taken, is_twice, is_unfit}
use Rattle.batch_records.specs.CodesByKind.{applies_to}
use Rattle.batch_records.specs.CountText.{count_of}
use Rattle.batch_records.specs.Kinds.{account_kind_in, fields_in, has_bad_amount, has_bad_date, has_bad_id, has_bad_name, has_bad_number, has_closing_date, has_other_fields, has_other_link, has_other_word, is_closing_date, is_no_date, is_paid, kind_named, kind_of, link_names, name_fields}
use Rattle.batch_records.specs.Made.{last_stop}
use Rattle.batch_records.specs.Records.{Fields, field}
use Rattle.batch_records.specs.Versions.{count_field, has_labels, sum_field}
use Rattle.batch_records.specs.Words.{account_kind_named, is_answer, is_cycle, is_priority, is_procedures, is_version_word, procedure_named, technical_named}
use Rattle.batch_records.specs.declared.day.DayCode.{DayCode}
use Rattle.batch_records.specs.declared.day.DayCode.TheVariants as day_codes
use Rattle.batch_records.specs.declared.kinds.RecordKind.{RecordKind}
use Rattle.batch_records.specs.declared.kinds.RecordKind.TheVariants as record_kinds
use Rattle.batch_records.specs.declared.so_far.SoFar.{SoFar}
use Rattle.batch_records.proofs.BoolFacts.{le_failed, le_meant}
use Rattle.batch_records.proofs.CodeFacts.{code_of_kind, code_without_kind}
use Rattle.batch_records.proofs.CutFields.{alike, at_field, count_kept, cut, cut_field, cut_length, from_time, info_time, kept_whole, short_of, stated_same, sum_kept, till_time}
use Rattle.batch_records.proofs.Fine.{AllHold, all_hold}
use Rattle.batch_records.proofs.LongRecords.{long, long_code}
use Rattle.batch_records.proofs.LongTexts.{long_account_kind, long_answer, long_cents, long_count, long_cycle, long_date, long_id, long_kind, long_name, long_priority, long_procedure, long_procedures, long_technical, long_time, long_version}

-- ---- tests of a field of what is kept

kind_same : (r : Fields) → kind_of (cut r) ≡ kind_of r
kind_same r = at_field kind_named (alike kind_named None long_kind) r 0

name_at : (r : Fields) (i : ℕ) → is_name (field (cut r) i) ≡ is_name (field r i)
name_at r i = at_field is_name (alike is_name false long_name) r i

id_at : (r : Fields) (i : ℕ) → is_id (field (cut r) i) ≡ is_id (field r i)
id_at r i = at_field is_id (alike is_id false long_id) r i

cents_at : (r : Fields) (i : ℕ) → cents_of (field (cut r) i) ≡ cents_of (field r i)
cents_at r i = at_field cents_of (alike cents_of None long_cents) r i

amount_at : (r : Fields) (i : ℕ) → amount_in (field (cut r) i) ≡ amount_in (field r i)
amount_at r i = ap (λ o. unwrap_or o 0) (cents_at r i)

technical_at : (r : Fields) (i : ℕ) → technical_named (field (cut r) i) ≡ technical_named (field r i)
technical_at r i = at_field technical_named (alike technical_named None long_technical) r i

account_at : (r : Fields) → account_kind_named (field (cut r) 2) ≡ account_kind_named (field r 2)
account_at r = at_field account_kind_named (alike account_kind_named None long_account_kind) r 2

account_same : (r : Fields) → account_kind_in (cut r) ≡ account_kind_in r
account_same r = ap (λ o. unwrap_or o account_kinds.Dca) (account_at r)

long_full : (text : List ℕ) → 35 < length text → (length text == 0) ≡ false
long_full text l = ne_eqb (length text) 0 (λ e. absurd (omega (arith, l, e)))

empty_at : (r : Fields) (i : ℕ) → (length (field (cut r) i) == 0) ≡ (length (field r i) == 0)
empty_at r i = at_field (λ text. length text == 0) (alike (λ text. length text == 0) false long_full) r i

-- ---- the codes that any record may have

fields_same : (version : ℕ) (kind : RecordKind) (r : Fields) → has_other_fields version kind (cut r) ≡ has_other_fields version kind r
unfolding has_other_fields
fields_same version record_kinds.Bat r = λ j. not (if has_labels version then stated_same r j else cut_length r j == fields_in record_kinds.Bat)
fields_same version record_kinds.Res r = λ j. has_labels version && not (cut_length r j == fields_in record_kinds.Res)
fields_same version record_kinds.Ver r = λ j. not (cut_length r j == fields_in record_kinds.Ver)
fields_same version record_kinds.Day r = λ j. not (cut_length r j == fields_in record_kinds.Day)
fields_same version record_kinds.As r = λ j. not (cut_length r j == fields_in record_kinds.As)
fields_same version record_kinds.Acc r = λ j. not (cut_length r j == fields_in record_kinds.Acc)
fields_same version record_kinds.Ent r = λ j. not (cut_length r j == fields_in record_kinds.Ent)
fields_same version record_kinds.Pay r = λ j. not (cut_length r j == fields_in record_kinds.Pay)
fields_same version record_kinds.Liq r = λ j. not (cut_length r j == fields_in record_kinds.Liq)
fields_same version record_kinds.Obj r = λ j. not (cut_length r j == fields_in record_kinds.Obj)
fields_same version record_kinds.Cnf r = λ j. not (cut_length r j == fields_in record_kinds.Cnf)
fields_same version record_kinds.Cyc r = λ j. not (cut_length r j == fields_in record_kinds.Cyc)
fields_same version record_kinds.Tim r = λ j. not (cut_length r j == fields_in record_kinds.Tim)
fields_same version record_kinds.End r = λ j. not (cut_length r j == fields_in record_kinds.End)

other_link : (kind : AccountKind) (r : Fields) → has_other_link kind (cut r) ≡ has_other_link kind r
unfolding has_other_link
other_link account_kinds.Tech r = ap is_none (technical_at r 4)
other_link account_kinds.Dca r = refl
other_link account_kinds.Sub r = refl
other_link account_kinds.Fund r = refl

link_same : (r : Fields) → has_other_link (account_kind_in (cut r)) (cut r) ≡ has_other_link (account_kind_in r) r
link_same r = ap (λ kind. has_other_link kind (cut r)) (account_same r) ∙ other_link (account_kind_in r) r

words_same : (version : ℕ) (kind : RecordKind) (r : Fields) → has_other_word version kind (cut r) ≡ has_other_word version kind r
unfolding has_other_word
words_same version record_kinds.Ver r = ap not (at_field is_version_word (alike is_version_word false long_version) r 1)
words_same version record_kinds.As r = ap not (at_field is_procedures (alike is_procedures false long_procedures) r 2)
words_same version record_kinds.Acc r = λ j. is_none (account_at r j) || link_same r j
words_same version record_kinds.Res r = refl
words_same version record_kinds.Bat r = ap is_none (at_field procedure_named (alike procedure_named None long_procedure) r 3)
words_same version record_kinds.Pay r = ap not (at_field is_priority (alike is_priority false long_priority) r 3)
words_same version record_kinds.Cnf r = ap not (at_field is_answer (alike is_answer false long_answer) r 4)
words_same version record_kinds.Cyc r = ap not (at_field is_cycle (alike is_cycle false long_cycle) r 3)
words_same version record_kinds.Day r = refl
words_same version record_kinds.Ent r = refl
words_same version record_kinds.Liq r = refl
words_same version record_kinds.Obj r = refl
words_same version record_kinds.Tim r = refl
words_same version record_kinds.End r = refl

dates_same : (kind : RecordKind) (r : Fields) → has_bad_date kind (cut r) ≡ has_bad_date kind r
unfolding has_bad_date
dates_same record_kinds.Day r = ap is_no_date (at_field date_of_text (alike date_of_text (Err date_faults.Form) long_date) r 1)
dates_same record_kinds.Ver r = refl
dates_same record_kinds.As r = refl
dates_same record_kinds.Acc r = refl
dates_same record_kinds.Res r = refl
dates_same record_kinds.Bat r = refl
dates_same record_kinds.Ent r = refl
dates_same record_kinds.Pay r = refl
dates_same record_kinds.Liq r = refl
dates_same record_kinds.Obj r = refl
dates_same record_kinds.Cnf r = refl
dates_same record_kinds.Cyc r = refl
dates_same record_kinds.Tim r = refl
dates_same record_kinds.End r = refl

closed_same : (kind : RecordKind) (r : Fields) → has_closing_date kind (cut r) ≡ has_closing_date kind r
unfolding has_closing_date
closed_same record_kinds.Day r = ap is_closing_date (at_field date_of_text (alike date_of_text (Err date_faults.Form) long_date) r 1)
closed_same record_kinds.Ver r = refl
closed_same record_kinds.As r = refl
closed_same record_kinds.Acc r = refl
closed_same record_kinds.Res r = refl
closed_same record_kinds.Bat r = refl
closed_same record_kinds.Ent r = refl
closed_same record_kinds.Pay r = refl
closed_same record_kinds.Liq r = refl
closed_same record_kinds.Obj r = refl
closed_same record_kinds.Cnf r = refl
closed_same record_kinds.Cyc r = refl
closed_same record_kinds.Tim r = refl
closed_same record_kinds.End r = refl

abbrev no_names : List (List ℕ) → Bool
no_names texts = list_any (λ f. not (is_name f)) texts

links_by : (kind : AccountKind) (r : Fields) → no_names (link_names kind (cut r)) ≡ no_names (link_names kind r)
links_by account_kinds.Sub r = λ j. not (name_at r 4 j) || false
links_by account_kinds.Dca r = refl
links_by account_kinds.Tech r = refl
links_by account_kinds.Fund r = refl

links_same : (r : Fields) → no_names (link_names (account_kind_in (cut r)) (cut r)) ≡ no_names (link_names (account_kind_in r) r)
links_same r = ap (λ kind. no_names (link_names kind (cut r))) (account_same r) ∙ links_by (account_kind_in r) r

names_same : (kind : RecordKind) (r : Fields) → has_bad_name kind (cut r) ≡ has_bad_name kind r
unfolding has_bad_name
names_same record_kinds.As r = λ j. not (name_at r 1 j) || false
names_same record_kinds.Acc r = λ j. not (name_at r 1 j) || (not (name_at r 3 j) || links_same r j)
names_same record_kinds.Res r = λ j. not (name_at r 1 j) || false
names_same record_kinds.Bat r = λ j. not (name_at r 1 j) || false
names_same record_kinds.Ent r = λ j. not (name_at r 1 j) || (not (name_at r 2 j) || false)
names_same record_kinds.Pay r = λ j. not (name_at r 1 j) || (not (name_at r 4 j) || (not (name_at r 5 j) || false))
names_same record_kinds.Liq r = λ j. not (name_at r 1 j) || (not (name_at r 3 j) || (not (name_at r 4 j) || false))
names_same record_kinds.Obj r = λ j. not (name_at r 1 j) || (not (name_at r 3 j) || false)
names_same record_kinds.Cnf r = λ j. not (name_at r 1 j) || false
names_same record_kinds.Cyc r = λ j. not (name_at r 1 j) || false
names_same record_kinds.Ver r = refl
names_same record_kinds.Day r = refl
names_same record_kinds.Tim r = refl
names_same record_kinds.End r = refl

ids_same : (kind : RecordKind) (r : Fields) → has_bad_id kind (cut r) ≡ has_bad_id kind r
unfolding has_bad_id
ids_same record_kinds.Bat r = λ j. not (id_at r 2 j) || false
ids_same record_kinds.Pay r = λ j. not (id_at r 2 j) || false
ids_same record_kinds.Liq r = λ j. not (id_at r 2 j) || false
ids_same record_kinds.Obj r = λ j. not (id_at r 2 j) || (not (id_at r 4 j) || false)
ids_same record_kinds.Cnf r = λ j. not (id_at r 2 j) || (not (id_at r 3 j) || false)
ids_same record_kinds.Cyc r = λ j. not (id_at r 2 j) || false
ids_same record_kinds.Ver r = refl
ids_same record_kinds.Day r = refl
ids_same record_kinds.As r = refl
ids_same record_kinds.Acc r = refl
ids_same record_kinds.Res r = refl
ids_same record_kinds.Ent r = refl
ids_same record_kinds.Tim r = refl
ids_same record_kinds.End r = refl

numbers_same : (version : ℕ) (kind : RecordKind) (r : Fields) → has_bad_number version kind (cut r) ≡ has_bad_number version kind r
unfolding has_bad_number
numbers_same version record_kinds.Bat r = ap is_none (ap count_of (count_kept version r) ∙ alike count_of None long_count (count_field version r))
numbers_same version record_kinds.Ver r = refl
numbers_same version record_kinds.Day r = refl
numbers_same version record_kinds.As r = refl
numbers_same version record_kinds.Acc r = refl
numbers_same version record_kinds.Res r = refl
numbers_same version record_kinds.Ent r = refl
numbers_same version record_kinds.Pay r = refl
numbers_same version record_kinds.Liq r = refl
numbers_same version record_kinds.Obj r = refl
numbers_same version record_kinds.Cnf r = refl
numbers_same version record_kinds.Cyc r = refl
numbers_same version record_kinds.Tim r = refl
numbers_same version record_kinds.End r = refl

amounts_same : (version : ℕ) (kind : RecordKind) (r : Fields) → has_bad_amount version kind (cut r) ≡ has_bad_amount version kind r
unfolding has_bad_amount
amounts_same version record_kinds.Acc r = ap is_none (cents_at r 5)
amounts_same version record_kinds.Res r = λ j. is_none (cents_at r 2 j) || is_none (cents_at r 3 j)
amounts_same version record_kinds.Bat r = ap is_none (ap cents_of (sum_kept version r) ∙ alike cents_of None long_cents (sum_field version r))
amounts_same version record_kinds.Ent r = ap (λ o. not (is_paid o)) (cents_at r 3)
amounts_same version record_kinds.Pay r = ap (λ o. not (is_paid o)) (cents_at r 6)
amounts_same version record_kinds.Liq r = ap (λ o. not (is_paid o)) (cents_at r 5)
amounts_same version record_kinds.Ver r = refl
amounts_same version record_kinds.Day r = refl
amounts_same version record_kinds.As r = refl
amounts_same version record_kinds.Obj r = refl
amounts_same version record_kinds.Cnf r = refl
amounts_same version record_kinds.Cyc r = refl
amounts_same version record_kinds.Tim r = refl
amounts_same version record_kinds.End r = refl

times_same : (kind : RecordKind) (s : SoFar) (r : Fields) → has_bad_time kind s (cut r) ≡ has_bad_time kind s r
unfolding has_bad_time
times_same record_kinds.Bat s r = λ j. info_time s.version r j || from_time s.version r j || till_time s.version r j
times_same record_kinds.Tim s r = ap (λ o. not (is_next_stop (last_stop s.stops) o)) (at_field time_of_text (alike time_of_text None long_time) r 1)
times_same record_kinds.Ver s r = refl
times_same record_kinds.Day s r = refl
times_same record_kinds.As s r = refl
times_same record_kinds.Acc s r = refl
times_same record_kinds.Res s r = refl
times_same record_kinds.Ent s r = refl
times_same record_kinds.Pay s r = refl
times_same record_kinds.Liq s r = refl
times_same record_kinds.Obj s r = refl
times_same record_kinds.Cnf s r = refl
times_same record_kinds.Cyc s r = refl
times_same record_kinds.End s r = refl

limits_same : (kind : RecordKind) (s : SoFar) (r : Fields) → is_past_limit kind s (cut r) ≡ is_past_limit kind s r
unfolding is_past_limit
limits_same record_kinds.Acc s r = λ j. nat_le MAX_ACCOUNTS (length s.accounts) || nat_lt MAX_CENTS (s.opened + amount_at r 5 j)
limits_same record_kinds.Res s r = λ j. nat_lt MAX_CENTS (amount_at r 2 j + amount_at r 3 j)
limits_same record_kinds.Ver s r = refl
limits_same record_kinds.Day s r = refl
limits_same record_kinds.As s r = refl
limits_same record_kinds.Bat s r = refl
limits_same record_kinds.Ent s r = refl
limits_same record_kinds.Pay s r = refl
limits_same record_kinds.Liq s r = refl
limits_same record_kinds.Obj s r = refl
limits_same record_kinds.Cnf s r = refl
limits_same record_kinds.Cyc s r = refl
limits_same record_kinds.Tim s r = refl
limits_same record_kinds.End s r = refl

-- ---- and those of a record whose names are names: these are kept whole

pub name_short : (text : List ℕ) → is_name text ≡ true → length text ≤ 64
name_short text h = short_of is_name false long_name text (λ e. absurd (cc (e, h)))

name_whole : (r : Fields) (i : ℕ) → is_name (field r i) ≡ true → field (cut r) i ≡ field r i
name_whole r i h = cut_field r i ∙ kept_whole (field r i) (name_short (field r i) h)

role_same : (kind : AccountKind) (s : SoFar) (r : Fields) → field (cut r) 3 ≡ field r 3 → is_role_taken kind s (cut r) ≡ is_role_taken kind s r
unfolding is_role_taken
role_same account_kinds.Tech s r w = λ j. some_passes (λ p. list_any (is_technical_for (w j) p) s.accounts) (technical_at r 4 j)
role_same account_kinds.Fund s r w = λ j. list_any (is_fund_for (w j)) s.accounts
role_same account_kinds.Dca s r w = refl
role_same account_kinds.Sub s r w = refl

unfit_same : (kind : AccountKind) (s : SoFar) (r : Fields) → field (cut r) 3 ≡ field r 3 → AllHold is_name (link_names kind r) → is_unfit kind s (cut r) ≡ is_unfit kind s r
unfolding is_unfit
unfit_same account_kinds.Dca s r w h = λ j. not (empty_at r 4 j) || is_system_name s.systems (w j)
unfit_same account_kinds.Sub s r w h =
    λ j. not (owns_dca s.accounts (w j)) || not (lists s.systems (name_whole r 4 h.0 j) procedures.C) || not (amount_at r 5 j == 0)
unfit_same account_kinds.Tech s r w h = λ j. not (is_listed s.systems (w j) (technical_at r 4 j)) || not (amount_at r 5 j == 0)
unfit_same account_kinds.Fund s r w h = λ j. not (is_system_name s.systems (w j)) || not (empty_at r 4 j)

names_of : (kind : RecordKind) (r : Fields) → has_bad_name kind r ≡ false → AllHold is_name (name_fields kind r)
unfolding has_bad_name
names_of kind r e = all_hold is_name (name_fields kind r) e

twice_same : (kind : RecordKind) (s : SoFar) (r : Fields) → AllHold is_name (name_fields kind r) → is_twice kind s (cut r) ≡ is_twice kind s r
unfolding is_twice
twice_same record_kinds.As s r h = ap (is_system_name s.systems) (name_whole r 1 h.0)
twice_same record_kinds.Acc s r h =
    let first = name_whole r 1 h.0 in
    let role = ap (λ kind. is_role_taken kind s (cut r)) (account_same r) ∙ role_same (account_kind_in r) s r (name_whole r 3 h.1.0) in
    λ j. list_any (λ a. bytes_eq a.name (first j)) s.accounts || role j
twice_same record_kinds.Res s r h = ap (is_kept_already s) (name_whole r 1 h.0)
twice_same record_kinds.Ver s r h = refl
twice_same record_kinds.Day s r h = refl
twice_same record_kinds.Bat s r h = refl
twice_same record_kinds.Ent s r h = refl
twice_same record_kinds.Pay s r h = refl
twice_same record_kinds.Liq s r h = refl
twice_same record_kinds.Obj s r h = refl
twice_same record_kinds.Cnf s r h = refl
twice_same record_kinds.Cyc s r h = refl
twice_same record_kinds.Tim s r h = refl
twice_same record_kinds.End s r h = refl

setup_same : (kind : RecordKind) (s : SoFar) (r : Fields) → AllHold is_name (name_fields kind r) → has_bad_setup kind s (cut r) ≡ has_bad_setup kind s r
unfolding has_bad_setup
setup_same record_kinds.As s r h = ap (owns_dca s.accounts) (name_whole r 1 h.0)
setup_same record_kinds.Acc s r h =
    ap (λ kind. is_unfit kind s (cut r)) (account_same r) ∙ unfit_same (account_kind_in r) s r (name_whole r 3 h.1.0) h.1.1
setup_same record_kinds.Res s r h = ap (λ name. not (is_dca_named s.accounts name)) (name_whole r 1 h.0)
setup_same record_kinds.Ver s r h = refl
setup_same record_kinds.Day s r h = refl
setup_same record_kinds.Bat s r h = refl
setup_same record_kinds.Ent s r h = refl
setup_same record_kinds.Pay s r h = refl
setup_same record_kinds.Liq s r h = refl
setup_same record_kinds.Obj s r h = refl
setup_same record_kinds.Cnf s r h = refl
setup_same record_kinds.Cyc s r h = refl
setup_same record_kinds.Tim s r h = refl
setup_same record_kinds.End s r h = refl

-- ---- the first code

-- the codes up to NAME, and those after it
abbrev told : Bool → Bool → Bool → Bool → Bool → Bool → Option DayCode → Option DayCode
told fields word place date closed name others =
    cond fields (Some day_codes.Fields) (cond word (Some day_codes.Kind) (cond place (Some day_codes.Place) (cond date (Some day_codes.Date)
    (cond closed (Some day_codes.Closed) (cond name (Some day_codes.Name) others)))))

abbrev behind_names : Bool → Bool → Bool → Bool → Bool → Bool → Bool → Option DayCode
behind_names id number amount time twice setup limit =
    cond id (Some day_codes.Id) (cond number (Some day_codes.Number) (cond amount (Some day_codes.Amount) (cond time (Some day_codes.Time)
    (cond twice (Some day_codes.Twice) (cond setup (Some day_codes.Setup) (cond limit (Some day_codes.Limit) None))))))

abbrev late_codes : RecordKind → SoFar → Fields → Option DayCode
late_codes kind s r =
    behind_names (has_bad_id kind r) (has_bad_number s.version kind r) (has_bad_amount s.version kind r) (has_bad_time kind s r) (is_twice kind s r) (has_bad_setup kind s r) (is_past_limit kind s r)

found_same : (kind : RecordKind) (s : SoFar) (r : Fields) → find (λ code. applies_to kind code s (cut r)) codes_in_order ≡ find (λ code. applies_to kind code s r) codes_in_order
found_same kind s r = by (has_bad_name kind r) refl
  where
    by : (b : Bool) → has_bad_name kind r ≡ b → find (λ code. applies_to kind code s (cut r)) codes_in_order ≡ find (λ code. applies_to kind code s r) codes_in_order
    by true e =
        (λ j. told (fields_same s.version kind r j) (words_same s.version kind r j) (is_out_of_place kind s) (dates_same kind r j) (closed_same kind r j) ((names_same kind r ∙ e) j) (late_codes kind s (cut r)))
        ∙ (λ j. told (has_other_fields s.version kind r) (has_other_word s.version kind r) (is_out_of_place kind s) (has_bad_date kind r) (has_closing_date kind r) (sym e j) (late_codes kind s r))
    by false e =
        let names = names_of kind r e in
        λ j. told (fields_same s.version kind r j) (words_same s.version kind r j) (is_out_of_place kind s) (dates_same kind r j) (closed_same kind r j) (names_same kind r j)
        (behind_names (ids_same kind r j) (numbers_same s.version kind r j) (amounts_same s.version kind r j) (times_same kind s r j) (twice_same kind s r names j) (setup_same kind s r names j) (limits_same kind s r j))

cut_code : (s : SoFar) (r : Fields) → first_code s (cut r) ≡ first_code s r
cut_code s r = by (kind_of r) refl
  where
    by : (o : Option RecordKind) → kind_of r ≡ o → first_code s (cut r) ≡ first_code s r
    by None e = code_without_kind s (cut r) (kind_same r ∙ e) ∙ sym (code_without_kind s r e)
    by (Some kind) e = code_of_kind kind s (cut r) (kind_same r ∙ e) ∙ found_same kind s r ∙ sym (code_of_kind kind s r e)

-- ---- records of many fields

few_or_many : (r : Fields) → (length r ≤ 9) ⊎ (9 < length r)
few_or_many r = elim (cases_Bool (nat_le (length r) 9)) [ inl e ↦ inl (le_meant (length r) 9 e) | inr e ↦ inr (le_failed (length r) 9 e) ]

-- a record of at most so many fields keeps them all
pub kept_all : (r : Fields) → length r ≤ 9 → kept_row r ≡ cut r
kept_all r l = let size = cut_length r in take_all 16 (cut r) (omega (arith, l, size))

first_kept : (r : Fields) → 9 < length r → kind_of (kept_row r) ≡ kind_of (cut r)
first_kept [] l = absurd (omega (arith, l))
first_kept (x ∷ r) l = refl

many_kept : (r : Fields) → 9 < length r → 9 < length (kept_row r)
many_kept r l =
    let size = cut_length r in
    elim (cases_Bool (nat_le (length (cut r)) 16)) [
      | inl e ↦
          let all : length (kept_row r) ≡ length (cut r) = ap length (take_all 16 (cut r) (le_meant (length (cut r)) 16 e)) in
          omega (arith, l, size, all)
      | inr e ↦
          let more : 16 < length (cut r) = le_failed (length (cut r)) 16 e in
          let most : length (kept_row r) ≡ 16 = length-take-le 16 (cut r) (omega (arith, more)) in
          omega (arith, most)
    ]

-- what is kept of a record has the record's code
pub kept_code : (s : SoFar) (r : Fields) → first_code s (kept_row r) ≡ first_code s r
kept_code s r =
    elim (few_or_many r) [
      | inl l ↦ ap (first_code s) (kept_all r l) ∙ cut_code s r
      | inr l ↦
          long s (kept_row r) (many_kept r l) ∙ ap (λ k. Some (long_code s.version k)) (first_kept r l ∙ kind_same r) ∙ sym (long s r l)
    ]
