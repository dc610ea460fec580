-- What the setup of a day says: accounts and systems by name and by number, owners, and who uses what.
use Rattle.std.specs.Prelude.{ℕ, Bool, ◌&&◌, ◌||◌, List, Option, Some, None, is_some, slice_get}
use Rattle.std.specs.List.{position_from, list_any}
use Rattle.std.specs.Option.{option_map_or}
use Rattle.cash_amounts.specs.declared.records.AccountRecord.{AccountRecord}
use Rattle.cash_amounts.specs.declared.records.Procedure.{Procedure}
use Rattle.cash_amounts.specs.declared.records.Procedure.TheVariants.{E}
use Rattle.batch_records.specs.DayRecord.{Day}
use Rattle.machine.specs.Words.{numbered, numbers, same_name, some_passes, is_dca, is_sub, is_technical, is_fund, same_procedure, flag_of}

-- ---- accounts, numbered from 1 in file order

abbrev pub account_numbers : Day → List ℕ
account_numbers day = numbers day.accounts

abbrev pub account_at : Day → ℕ → Option AccountRecord
account_at day a = numbered day.accounts a

abbrev pub account_named : Day → List ℕ → Option ℕ
account_named day name = position_from (λ r. same_name r.name name) 1 day.accounts

abbrev pub opening : Day → ℕ → ℕ
opening day a = option_map_or (λ r. r.opening) (account_at day a) 0

abbrev pub owner : Day → ℕ → List ℕ
owner day a = option_map_or (λ r. r.owner) (account_at day a) List.[]

-- whether the name is that of an account which passes
abbrev pub names_account : Day → (AccountRecord → Bool) → List ℕ → Bool
names_account day test name = some_passes (λ a. some_passes test (account_at day a)) (account_named day name)

abbrev pub is_dca_account : Day → List ℕ → Bool
is_dca_account day name = names_account day (λ r. is_dca r.kind) name

abbrev pub is_dca_of : Day → List ℕ → List ℕ → Bool
is_dca_of day bank name = names_account day (λ r. is_dca r.kind && same_name r.owner bank) name

abbrev pub is_sub_of : Day → List ℕ → List ℕ → Bool
is_sub_of day bank name = names_account day (λ r. is_sub r.kind && same_name r.owner bank) name

-- a sub-account that is dedicated to this system
abbrev pub is_sub_for : Day → List ℕ → List ℕ → Bool
is_sub_for day system name = names_account day (λ r. is_sub r.kind && some_passes (λ link. same_name link system) r.system) name

abbrev pub is_sub_account : Day → ℕ → Bool
is_sub_account day a = some_passes (λ r. is_sub r.kind) (account_at day a)

-- the system that a sub-account is dedicated to
abbrev pub linked : Day → ℕ → Option (List ℕ)
linked day a = link_of (account_at day a)
  where
    link_of : Option AccountRecord → Option (List ℕ)
    link_of None = None
    link_of (Some r) = r.system

-- ---- systems, numbered from 1 in file order, named by themselves

abbrev pub system_named : Day → List ℕ → Option ℕ
system_named day name = position_from (λ r. same_name r.name name) 1 day.systems

abbrev pub is_system : Day → List ℕ → Bool
is_system day name = list_any (λ r. same_name r.name name) day.systems

abbrev pub technical : Day → List ℕ → Procedure → Option ℕ
technical day system p =
    position_from (λ r. is_technical r.kind && same_name r.owner system && some_passes (λ q. same_procedure q p) r.procedure) 1 day.accounts

abbrev pub fund : Day → List ℕ → Option ℕ
fund day system = position_from (λ r. is_fund r.kind && same_name r.owner system) 1 day.accounts

abbrev pub lists_procedure : Day → List ℕ → Procedure → Bool
lists_procedure day system p =
    list_any (λ r. same_name r.name system && some_passes (λ listed. listed) (slice_get r.procedures (flag_of p))) day.systems

-- a system uses what it lists, and for all but E it needs the technical account
abbrev pub uses : Day → List ℕ → Procedure → Bool
uses day system p = lists_procedure day system p && (same_procedure p E || is_some (technical day system p))

-- ---- banks

abbrev pub first_dca : Day → List ℕ → Option ℕ
first_dca day bank = position_from (λ r. is_dca r.kind && same_name r.owner bank) 1 day.accounts

abbrev pub is_bank : Day → List ℕ → Bool
is_bank day name = is_some (first_dca day name)

-- whether the owner of the account of this name is the bank
abbrev pub owns : Day → List ℕ → List ℕ → Bool
owns day bank name = names_account day (λ r. same_name r.owner bank) name
