-- When what a book keeps beside its records is what the records say.
use Rattle.std.specs.Prelude.{◌≡◌, ◌≤◌, ℕ, Bool, ◌&&◌, nat_eq, true, List, [], ◌∷◌, Option, None, map}
use Rattle.std.specs.Hash.DefaultHasher as sip
use Rattle.std.specs.List.{position_from}
use Rattle.std.specs.Option.{option_and_then}
use Rattle.indexmap.specs.IndexMap.{get, spare}
use Rattle.cash_amounts.specs.Kinds.{is_dca}
use Rattle.cash_amounts.specs.declared.records.AccountRecord.{AccountRecord}
use Rattle.cash_amounts.specs.declared.records.SystemRecord.{SystemRecord}
use Rattle.cash_amounts.specs.declared.records.Procedure.TheVariants.{A, B, C, D, E}
use Rattle.cash_amounts.specs.SoundSetup.{sound_setup}
use Rattle.account_book.specs.Directory.{find_system, fund_account, technical_account}
use Rattle.account_book.specs.declared.directory.Directories.{Directories}
use Rattle.account_book.specs.declared.directory.Directory.{Directory}
use Rattle.account_book.specs.declared.directory.Roles.{Roles}
use Rattle.account_book.specs.declared.setup_hasher.SetupHasher.{SetupHasher}

-- ---- numbers by hashes

-- the hash of a name
unfoldable pub hash_of : SetupHasher → List ℕ → ℕ
hash_of hasher name = sip.finish (sip.write hasher.behind_setup name)

abbrev pub has_hash : SetupHasher → ℕ → List ℕ → Bool
has_hash hasher hash name = nat_eq (hash_of hasher name) hash

-- the number that is entered under a hash
abbrev pub number_at : Directory → ℕ → Option ℕ
number_at directory hash = get nat_eq directory.numbers hash

-- a directory without numbers, with room for so many
pub record IsFree (most : ℕ) (directory : Directory) : Type 0 where
  pub none : (hash : ℕ) → number_at directory hash ≡ None
  pub room : most ≤ spare directory.numbers

-- both give each hash the same number
abbrev pub Agree : (ℕ → Option ℕ) → (ℕ → Option ℕ) → Type 0
Agree found told = (hash : ℕ) → found hash ≡ told hash

-- the first account, the first system, and the first dedicated cash account by its owner, with a name of this hash
abbrev pub account_hashed : SetupHasher → List AccountRecord → ℕ → Option ℕ
account_hashed hasher accounts hash = position_from (λ r. has_hash hasher hash r.name) 1 accounts

abbrev pub system_hashed : SetupHasher → List SystemRecord → ℕ → Option ℕ
system_hashed hasher systems hash = position_from (λ r. has_hash hasher hash r.name) 1 systems

abbrev pub is_dca_hashed : SetupHasher → ℕ → AccountRecord → Bool
is_dca_hashed hasher hash r = is_dca r.kind && has_hash hasher hash r.owner

abbrev pub bank_hashed : SetupHasher → List AccountRecord → ℕ → Option ℕ
bank_hashed hasher accounts hash = position_from (is_dca_hashed hasher hash) 1 accounts

pub record AreFiled (accounts : List AccountRecord) (systems : List SystemRecord) (d : Directories) : Type 0 where
  pub of_accounts : Agree (number_at d.accounts) (account_hashed d.hasher accounts)
  pub of_systems : Agree (number_at d.systems) (system_hashed d.hasher systems)
  pub of_banks : Agree (number_at d.banks) (bank_hashed d.hasher accounts)

-- ---- what is kept for each account, and for each system

-- the number of the system that an account is dedicated to, where this is the number of each name
abbrev pub link : (List ℕ → Option ℕ) → AccountRecord → Option ℕ
link told r = option_and_then told r.system

-- the accounts that a system has for the procedures A to E, and its fund
abbrev pub roles : List AccountRecord → SystemRecord → Roles
roles accounts r = record {
  technical = map (technical_account accounts r.name) (A ∷ B ∷ C ∷ D ∷ E ∷ []);
  fund = fund_account accounts r.name;
}

pub record IsFiled (accounts : List AccountRecord) (systems : List SystemRecord) (d : Directories) (links : List (Option ℕ)) (all_roles : List Roles) : Type 0 where
  pub sound : sound_setup accounts systems ≡ true
  pub numbers : AreFiled accounts systems d
  pub links_are : links ≡ map (link (find_system systems)) accounts
  pub roles_are : all_roles ≡ map (roles accounts) systems
