-- Which setups are sound: no name twice, each account with a fitting owner and link, and no limit passed.
use Rattle.std.specs.Prelude.{ℕ, Bool, true, false, not, ◌&&◌, List, [], ◌∷◌, Option, Some, None, slice_get, nat_eq, nat_le, length, sum_by, is_none, bytes_eq}
use Rattle.std.specs.List.{list_any}
use Rattle.cash_amounts.specs.declared.cents.TheConstants.{MAX_CENTS}
use Rattle.cash_amounts.specs.declared.limits.TheConstants.{MAX_ACCOUNTS, MAX_SYSTEMS}
use Rattle.cash_amounts.specs.declared.records.AccountRecord.{AccountRecord}
use Rattle.cash_amounts.specs.declared.records.SystemRecord.{SystemRecord}
use Rattle.cash_amounts.specs.declared.records.AccountKind.{AccountKind}
use Rattle.cash_amounts.specs.declared.records.AccountKind.TheVariants.{Dca, Sub, Tech, Fund}
use Rattle.cash_amounts.specs.declared.records.Procedure.{Procedure}
use Rattle.cash_amounts.specs.declared.records.Procedure.TheVariants.{C, E}
use Rattle.cash_amounts.specs.Kinds.{is_dca, is_technical, is_fund, flag_of, same_procedure}

abbrev pub is_flag_set : Option Bool → Bool
is_flag_set None = false
is_flag_set (Some b) = b

-- a system of this name that lists the procedure
abbrev pub lists : List SystemRecord → List ℕ → Procedure → Bool
lists systems name p = list_any (λ r. bytes_eq r.name name && is_flag_set (slice_get r.procedures (flag_of p))) systems

abbrev pub is_system_name : List SystemRecord → List ℕ → Bool
is_system_name systems name = list_any (λ r. bytes_eq r.name name) systems

abbrev pub is_the : Procedure → Option Procedure → Bool
is_the p None = false
is_the p (Some q) = same_procedure q p

abbrev pub is_technical_for : List ℕ → Procedure → AccountRecord → Bool
is_technical_for system p r = is_technical r.kind && bytes_eq r.owner system && is_the p r.procedure

abbrev pub is_fund_for : List ℕ → AccountRecord → Bool
is_fund_for system r = is_fund r.kind && bytes_eq r.owner system

abbrev pub owns_dca : List AccountRecord → List ℕ → Bool
owns_dca accounts bank = list_any (λ r. is_dca r.kind && bytes_eq r.owner bank) accounts

-- ---- no name twice

abbrev pub is_name_twice : List AccountRecord → AccountRecord → Bool
is_name_twice before r = list_any (λ q. bytes_eq q.name r.name) before

abbrev pub is_role_twice : AccountKind → Option Procedure → List AccountRecord → AccountRecord → Bool
is_role_twice Tech (Some p) before r = list_any (is_technical_for r.owner p) before
is_role_twice Fund p before r = list_any (is_fund_for r.owner) before
is_role_twice _ p before r = false

-- ---- fitting owners, links and openings

abbrev pub links_to : List SystemRecord → Option (List ℕ) → Bool
links_to systems None = false
links_to systems (Some system) = lists systems system C

abbrev pub is_listed : List SystemRecord → List ℕ → Option Procedure → Bool
is_listed systems owner None = false
is_listed systems owner (Some E) = false
is_listed systems owner (Some p) = lists systems owner p

abbrev pub fits : AccountKind → List SystemRecord → List AccountRecord → AccountRecord → Bool
fits Dca systems before r = is_none r.system && is_none r.procedure && not (is_system_name systems r.owner)
fits Sub systems before r = owns_dca before r.owner && links_to systems r.system && is_none r.procedure && nat_eq r.opening 0
fits Tech systems before r = is_none r.system && is_listed systems r.owner r.procedure && nat_eq r.opening 0
fits Fund systems before r = is_none r.system && is_none r.procedure && is_system_name systems r.owner

abbrev pub accounts_are_sound : List SystemRecord → List AccountRecord → List AccountRecord → Bool
accounts_are_sound systems before [] = true
accounts_are_sound systems before (r ∷ rs) =
    not (is_name_twice before r) && not (is_role_twice r.kind r.procedure before r) && fits r.kind systems before r
    && accounts_are_sound systems (r ∷ before) rs

abbrev pub systems_are_sound : List SystemRecord → List SystemRecord → Bool
systems_are_sound before [] = true
systems_are_sound before (r ∷ rs) = not (is_system_name before r.name) && systems_are_sound (r ∷ before) rs

-- ---- limits

abbrev pub is_within_limits : List AccountRecord → List SystemRecord → Bool
is_within_limits accounts systems =
    nat_le (length systems) MAX_SYSTEMS && nat_le (length accounts) MAX_ACCOUNTS && nat_le (sum_by (λ r. r.opening) accounts) MAX_CENTS

abbrev pub sound_setup : List AccountRecord → List SystemRecord → Bool
sound_setup accounts systems = systems_are_sound [] systems && accounts_are_sound systems [] accounts && is_within_limits accounts systems
