-- What is wrong with a record, given the records before it.
use Rattle.std.specs.Prelude.{ℕ, Bool, true, false, ◌+◌, ◌==◌, ◌&&◌, ◌||◌, not, nat_eq, nat_le, nat_lt, List, [], ◌∷◌, length, find, Option, Some, None, bytes_eq, slice_get, ◌-◌}
use Rattle.std.specs.List.{list_any}
use Rattle.std.specs.Option.{option_map_or}
use Rattle.cash_amounts.specs.SoundSetup.{is_listed, is_system_name, is_technical_for, is_fund_for, lists, owns_dca}
use Rattle.cash_amounts.specs.Tests.{some_passes}
use Rattle.cash_amounts.specs.declared.cents.TheConstants.{MAX_CENTS}
use Rattle.cash_amounts.specs.declared.limits.TheConstants.{MAX_ACCOUNTS, MAX_SYSTEMS}
use Rattle.cash_amounts.specs.declared.records.AccountKind.{AccountKind}
use Rattle.cash_amounts.specs.declared.records.AccountRecord.{AccountRecord}
use Rattle.cash_amounts.specs.declared.records.AccountKind.TheVariants as account_kinds
use Rattle.cash_amounts.specs.declared.records.Procedure.TheVariants as procedures
use Rattle.period_calendar.specs.declared.time.TheConstants.{MIDNIGHT}
use Rattle.period_calendar.specs.Times.{time_of_text}
use Rattle.batch_records.specs.Amounts.{amount_in}
use Rattle.batch_records.specs.Kinds.{account_kind_in, by_kind, has_bad_amount, has_bad_date, has_bad_id, has_bad_name, has_bad_number, has_closing_date, has_other_fields, has_other_word, is_message_kind}
use Rattle.batch_records.specs.Made.{last_stop, number_named, so_far_of}
use Rattle.batch_records.specs.Records.{Fields, field}
use Rattle.batch_records.specs.Sound.{entries_in, is_dca_number}
use Rattle.batch_records.specs.Versions.{begins_with_ver, from_text, info_text, is_no_time, most_entries, most_entries_of_day, most_messages, till_text}
use Rattle.batch_records.specs.Words.{technical_named}
use Rattle.batch_records.specs.declared.day.DayCode.{DayCode}
use Rattle.batch_records.specs.declared.day.DayCode.TheVariants as day_codes
use Rattle.batch_records.specs.declared.day.Message.{Message}
use Rattle.batch_records.specs.declared.kinds.RecordKind.{RecordKind}
use Rattle.batch_records.specs.declared.kinds.RecordKind.TheVariants as record_kinds
use Rattle.batch_records.specs.declared.so_far.SoFar.{SoFar}

-- VER stands first and nowhere else, DAY first or directly after VER and nowhere else, systems, accounts and what they keep before
-- all messages and stops, an entry directly after a batch or another entry, and nothing after END. Where no record before it was bad, a
-- record is the first exactly where neither DAY nor VER was there, and directly after VER where VER was there and DAY wasn't.
unfoldable pub is_out_of_place : RecordKind → SoFar → Bool
is_out_of_place record_kinds.Ver s = s.started || begins_with_ver s.version
is_out_of_place record_kinds.Day s = s.started
is_out_of_place record_kinds.As s = not s.started || s.ended || s.begun
is_out_of_place record_kinds.Acc s = not s.started || s.ended || s.begun
is_out_of_place record_kinds.Res s = not s.started || s.ended || s.begun
is_out_of_place record_kinds.Ent s = not s.started || s.ended || not s.in_batch
is_out_of_place _ s = not s.started || s.ended

-- a time above the stop before it, above midnight, and below the end of the day
abbrev pub is_next_stop : ℕ → Option ℕ → Bool
is_next_stop last None = false
is_next_stop last (Some t) = nat_lt last t && nat_lt t MIDNIGHT

unfoldable pub has_bad_time : RecordKind → SoFar → Fields → Bool
has_bad_time record_kinds.Bat s r = is_no_time (info_text s.version r) || is_no_time (from_text s.version r) || is_no_time (till_text s.version r)
has_bad_time record_kinds.Tim s r = not (is_next_stop (last_stop s.stops) (time_of_text (field r 1)))
has_bad_time _ s r = false

-- an earlier technical account of this system and procedure; an earlier fund of this system
unfoldable pub is_role_taken : AccountKind → SoFar → Fields → Bool
is_role_taken account_kinds.Tech s r = some_passes (λ p. list_any (is_technical_for (field r 3) p) s.accounts) (technical_named (field r 4))
is_role_taken account_kinds.Fund s r = list_any (is_fund_for (field r 3)) s.accounts
is_role_taken _ s r = false

-- an account of this name that keeps amounts already
unfoldable pub is_kept_already : SoFar → List ℕ → Bool
is_kept_already s name = some_passes (λ a. list_any (λ x. nat_eq x.account a) s.reserves) (number_named s.accounts name)

-- the name of an earlier system; the name of an earlier account, or its place in the setup; an account that keeps amounts already
unfoldable pub is_twice : RecordKind → SoFar → Fields → Bool
is_twice record_kinds.As s r = is_system_name s.systems (field r 1)
is_twice record_kinds.Acc s r = list_any (λ a. bytes_eq a.name (field r 1)) s.accounts || is_role_taken (account_kind_in r) s r
is_twice record_kinds.Res s r = is_kept_already s (field r 1)
is_twice _ s r = false

-- What is wrong with an account in its setup. A dedicated cash account has a link, or its owner is a system. The owner of
-- a sub-account has no dedicated cash account, or its link is no system that lists C, or it opens with money. The owner of a
-- technical account is no system that lists its procedure, or it opens with money. The owner of a fund is no system, or it has
-- a link.
unfoldable pub is_unfit : AccountKind → SoFar → Fields → Bool
is_unfit account_kinds.Dca s r = not (length (field r 4) == 0) || is_system_name s.systems (field r 3)
is_unfit account_kinds.Sub s r = not (owns_dca s.accounts (field r 3)) || not (lists s.systems (field r 4) procedures.C) || not (amount_in (field r 5) == 0)
is_unfit account_kinds.Tech s r = not (is_listed s.systems (field r 3) (technical_named (field r 4))) || not (amount_in (field r 5) == 0)
is_unfit account_kinds.Fund s r = not (is_system_name s.systems (field r 3)) || not (length (field r 4) == 0)

-- the account of this name is a dedicated cash account
abbrev pub is_dca_named : List AccountRecord → List ℕ → Bool
is_dca_named accounts name = some_passes (is_dca_number accounts) (number_named accounts name)

-- a system whose name owns a dedicated cash account; an account that doesn't fit; a name that is no dedicated cash account's
unfoldable pub has_bad_setup : RecordKind → SoFar → Fields → Bool
has_bad_setup record_kinds.As s r = owns_dca s.accounts (field r 1)
has_bad_setup record_kinds.Acc s r = is_unfit (account_kind_in r) s r
has_bad_setup record_kinds.Res s r = not (is_dca_named s.accounts (field r 1))
has_bad_setup _ s r = false

-- how many entries the last of some messages has
abbrev pub last_entries : List Message → ℕ
last_entries messages = option_map_or (λ m. length (entries_in m.body)) (slice_get messages (length messages - 1)) 0

-- with it there would be more systems or accounts than a day may have, more cents on the accounts when it opens, or more messages,
-- entries of the day, or entries of the batch than the version has it; or an account would keep more than the largest amount
unfoldable pub is_past_limit : RecordKind → SoFar → Fields → Bool
is_past_limit record_kinds.As s r = nat_le MAX_SYSTEMS (length s.systems)
is_past_limit record_kinds.Acc s r = nat_le MAX_ACCOUNTS (length s.accounts) || nat_lt MAX_CENTS (s.opened + amount_in (field r 5))
is_past_limit record_kinds.Res s r = nat_lt MAX_CENTS (amount_in (field r 2) + amount_in (field r 3))
is_past_limit record_kinds.Ent s r = nat_le (most_entries s.version) (last_entries s.messages) || nat_le (most_entries_of_day s.version) s.entries
is_past_limit kind s r = is_message_kind kind && nat_le (most_messages s.version) (length s.messages)

-- The table: whether a code applies to a record after others. CUT is no record's.
abbrev pub applies : DayCode → SoFar → Fields → Bool
applies day_codes.Fields s r = by_kind false (λ kind. has_other_fields s.version kind r) r
applies day_codes.Kind s r = by_kind true (λ kind. has_other_word s.version kind r) r
applies day_codes.Place s r = by_kind false (λ kind. is_out_of_place kind s) r
applies day_codes.Date s r = by_kind false (λ kind. has_bad_date kind r) r
applies day_codes.Closed s r = by_kind false (λ kind. has_closing_date kind r) r
applies day_codes.Name s r = by_kind false (λ kind. has_bad_name kind r) r
applies day_codes.Id s r = by_kind false (λ kind. has_bad_id kind r) r
applies day_codes.Number s r = by_kind false (λ kind. has_bad_number s.version kind r) r
applies day_codes.Amount s r = by_kind false (λ kind. has_bad_amount s.version kind r) r
applies day_codes.Time s r = by_kind false (λ kind. has_bad_time kind s r) r
applies day_codes.Twice s r = by_kind false (λ kind. is_twice kind s r) r
applies day_codes.Setup s r = by_kind false (λ kind. has_bad_setup kind s r) r
applies day_codes.Limit s r = by_kind false (λ kind. is_past_limit kind s r) r
applies day_codes.Cut s r = false

-- the codes of a record, the one that is told first in front
abbrev pub codes_in_order : List DayCode
codes_in_order = day_codes.Fields ∷ day_codes.Kind ∷ day_codes.Place ∷ day_codes.Date ∷ day_codes.Closed ∷ day_codes.Name ∷ day_codes.Id ∷ day_codes.Number ∷ day_codes.Amount ∷ day_codes.Time
    ∷ day_codes.Twice ∷ day_codes.Setup ∷ day_codes.Limit ∷ []

-- the first code that applies to a record, where one does
unfoldable pub first_code : SoFar → Fields → Option DayCode
first_code s r = find (λ c. applies c s r) codes_in_order

-- the same, after these records
abbrev pub code_of : List Fields → Fields → Option DayCode
code_of earlier r = first_code (so_far_of earlier) r
