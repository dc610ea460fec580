-- When an index of accounts is that of a list.
use Rattle.std.specs.Prelude.{◌≡◌, ◌≤◌, ℕ, Bool, List, bytes_eq, length, map}
use Rattle.std.specs.List.{list_any}
use Rattle.cash_amounts.specs.SoundSetup.{owns_dca}
use Rattle.cash_amounts.specs.declared.limits.TheConstants.{MAX_ACCOUNTS}
use Rattle.cash_amounts.specs.declared.records.AccountRecord.{AccountRecord}
use Rattle.message_names.specs.Names.{Listed}

-- whether an account has this name
abbrev pub has_name : List AccountRecord → List ℕ → Bool
has_name accounts name = list_any (λ a. bytes_eq a.name name) accounts

-- whether a name is one of these
abbrev pub is_among : List (List ℕ) → List ℕ → Bool
is_among names name = list_any (λ own. bytes_eq own name) names

-- Accounts in a list of this capacity: their names are entered, and of the banks those that own a dedicated cash account among them;
-- there is room for as many as a day may have.
pub record IsKept (accounts : List AccountRecord) (capacity : ℕ) (names banks : Listed) : Type 0 where
  pub of_names : names.names ≡ map (λ a. a.name) accounts
  pub of_banks : (bank : List ℕ) → is_among banks.names bank ≡ owns_dca accounts bank
  pub few : length banks.names ≤ length accounts
  pub room : MAX_ACCOUNTS ≤ capacity
  pub names_room : names.most ≡ MAX_ACCOUNTS
  pub banks_room : banks.most ≡ MAX_ACCOUNTS
