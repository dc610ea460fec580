-- What the records of a setup say: accounts and systems by name and by number, owners, links, and who uses what.
-- Accounts and systems are numbered from 1, each in file order.
use Rattle.std.specs.Prelude.{ℕ, Bool, ◌&&◌, ◌||◌, List, [], Option, is_some, slice_get}
use Rattle.std.specs.List.{list_any, position_from}
use Rattle.std.specs.Option.{option_map_or, option_and_then}
use Rattle.cash_amounts.specs.declared.records.AccountRecord.{AccountRecord}
use Rattle.cash_amounts.specs.declared.records.SystemRecord.{SystemRecord}
use Rattle.cash_amounts.specs.declared.records.Procedure.{Procedure}
use Rattle.cash_amounts.specs.declared.records.Procedure.TheVariants.{E}
use Rattle.cash_amounts.specs.Kinds.{flag_of, is_dca, is_fund, is_technical, same_procedure}
use Rattle.cash_amounts.specs.Numbers.{numbered}
use Rattle.cash_amounts.specs.Tests.{same_name, some_passes}

-- ---- accounts

-- the number of the account of this name
abbrev pub find_account : List AccountRecord → List ℕ → Option ℕ
find_account accounts name = position_from (λ r. same_name r.name name) 1 accounts

abbrev pub account_name : List AccountRecord → ℕ → List ℕ
account_name accounts a = option_map_or (λ r. r.name) (numbered accounts a) []

abbrev pub owner : List AccountRecord → ℕ → List ℕ
owner accounts a = option_map_or (λ r. r.owner) (numbered accounts a) []

abbrev pub opening : List AccountRecord → ℕ → ℕ
opening accounts a = option_map_or (λ r. r.opening) (numbered accounts a) 0

-- the name of the system that a sub-account is dedicated to
abbrev pub linked_system : List AccountRecord → ℕ → Option (List ℕ)
linked_system accounts a = option_and_then (λ r. r.system) (numbered accounts a)

-- ---- banks

-- a dedicated cash account of this bank
abbrev pub is_dca_of : List ℕ → AccountRecord → Bool
is_dca_of bank r = is_dca r.kind && same_name r.owner bank

-- the first dedicated cash account of the bank
abbrev pub first_dca : List AccountRecord → List ℕ → Option ℕ
first_dca accounts bank = position_from (is_dca_of bank) 1 accounts

-- ---- systems

-- the number of the system of this name
abbrev pub find_system : List SystemRecord → List ℕ → Option ℕ
find_system systems name = position_from (λ r. same_name r.name name) 1 systems

abbrev pub system_name : List SystemRecord → ℕ → List ℕ
system_name systems s = option_map_or (λ r. r.name) (numbered systems s) []

-- a technical account of the system of this name for a procedure
abbrev pub is_technical_of : List ℕ → Procedure → AccountRecord → Bool
is_technical_of system p r = is_technical r.kind && same_name r.owner system && some_passes (λ q. same_procedure q p) r.procedure

abbrev pub technical_account : List AccountRecord → List ℕ → Procedure → Option ℕ
technical_account accounts system p = position_from (is_technical_of system p) 1 accounts

-- a guarantee fund account of the system of this name
abbrev pub is_fund_of : List ℕ → AccountRecord → Bool
is_fund_of system r = is_fund r.kind && same_name r.owner system

abbrev pub fund_account : List AccountRecord → List ℕ → Option ℕ
fund_account accounts system = position_from (is_fund_of system) 1 accounts

abbrev pub lists_procedure : List SystemRecord → List ℕ → Procedure → Bool
lists_procedure systems system p =
    list_any (λ r. same_name r.name system && some_passes (λ listed. listed) (slice_get r.procedures (flag_of p))) systems

-- a system uses what it lists, and for all but E it needs the technical account
abbrev pub uses : List AccountRecord → List SystemRecord → List ℕ → Procedure → Bool
uses accounts systems system p = lists_procedure systems system p && (same_procedure p E || is_some (technical_account accounts system p))
