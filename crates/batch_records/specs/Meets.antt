-- Which days meet the rules of a day file.
use Rattle.std.specs.Prelude.{◌≡◌, ℕ, ◌==◌, Bool, true, ◌&&◌, ◌||◌, List, [], length, Option, is_none, nat_le, nat_lt, ◌^◌}
use Rattle.std.specs.List.{list_all}
use Rattle.cash_amounts.specs.declared.cents.TheConstants.{MAX_CENTS}
use Rattle.cash_amounts.specs.declared.records.AccountKind.{AccountKind}
use Rattle.cash_amounts.specs.declared.records.AccountKind.TheVariants as account_kinds
use Rattle.cash_amounts.specs.declared.records.AccountRecord.{AccountRecord}
use Rattle.cash_amounts.specs.declared.records.Procedure.{Procedure}
use Rattle.period_calendar.specs.declared.time.TheConstants.{MIDNIGHT}
use Rattle.batch_records.specs.Days.{bad_records}
use Rattle.batch_records.specs.DayTexts.{written_records}
use Rattle.batch_records.specs.Sound.{are_times, is_account_number, is_open_date, rounds_rise}
use Rattle.batch_records.specs.Versions.{has_labels, is_version, migrated_version}
use Rattle.batch_records.specs.declared.day.Body.{Body}
use Rattle.batch_records.specs.declared.day.Body.TheVariants as bodies
use Rattle.batch_records.specs.DayRecord.{Day, no_room}

-- ---- times, and the links of accounts

abbrev pub is_time : ℕ → Bool
is_time t = nat_le t MIDNIGHT

-- the times that a batch states are times
abbrev pub has_times : Body → Bool
has_times (bodies.Batch p info from till count sum entries) = are_times info from till
has_times _ = true

-- a batch of a day of version 1 has no earliest time
abbrev pub has_own_times : ℕ → Body → Bool
has_own_times version (bodies.Batch p info from till count sum entries) = is_none from || has_labels version
has_own_times version _ = true

-- no account but a sub-account has a system, and none but a technical account a procedure
abbrev pub are_own_links : AccountKind → Option (List ℕ) → Option Procedure → Bool
are_own_links account_kinds.Sub system procedure = is_none procedure
are_own_links account_kinds.Tech system procedure = is_none system
are_own_links _ system procedure = is_none system && is_none procedure

abbrev pub has_own_links : AccountRecord → Bool
has_own_links a = are_own_links a.kind a.system a.procedure

-- ---- what the types hold anyway

-- at most 10^18 cents
abbrev pub is_cents : ℕ → Bool
is_cents cents = nat_le cents MAX_CENTS

abbrev pub has_typed_body : Body → Bool
has_typed_body (bodies.Batch p info from till count sum entries) = nat_lt count (2 ^ 32) && is_cents sum && list_all (λ e. is_cents e.amount) entries
has_typed_body (bodies.Pay high debit credit amount) = is_cents amount
has_typed_body (bodies.Liquidity debit credit amount) = is_cents amount
has_typed_body _ = true

-- Each value of a day is one that its type can have: an open date, amounts, counts of 32 bits, a word for each of A to E.
-- That is so for each day that a program has, but not for each value that a definition speaks of.
abbrev pub is_typed : Day → Bool
is_typed day =
    is_open_date day.date
    && list_all (λ s. length s.procedures == 5) day.systems
    && list_all (λ a. is_cents a.opening) day.accounts
    && list_all (λ x. is_cents x.urgent && is_cents x.high) day.reserves
    && list_all (λ m. has_typed_body m.body) day.messages

-- ---- a day of another version that states the same

abbrev pub in_version : ℕ → Day → Day
in_version version day = record day { version = version }

abbrev pub migrated : Day → Day
migrated day = in_version (migrated_version day.version) day

-- ---- all together

-- a day meets the rules
pub record MeetsRules (day : Day) : Type 0 where
  pub typed : is_typed day ≡ true
  pub version : is_version day.version ≡ true
  -- its times are at most 24:00:00
  pub stops : list_all is_time day.stops ≡ true
  pub ends : list_all (λ m. has_times m.body) day.messages ≡ true
  -- the rounds of its messages never fall, and are at most the number of its stops
  pub rounds : rounds_rise (length day.stops) 0 day.messages ≡ true
  pub links : list_all has_own_links day.accounts ≡ true
  -- what keeps amounts are accounts of the day
  pub reserves : list_all (λ x. is_account_number day.accounts x.account) day.reserves ≡ true
  -- no batch of version 1 has an earliest time
  pub earliest : list_all (λ m. has_own_times day.version m.body) day.messages ≡ true
  -- it promises no room for more, of which a file says nothing
  pub room : day.room ≡ no_room
  -- none of its records has a code, each judged with those before it
  pub fine : bad_records (written_records day) ≡ []
