-- Room for a book.
use Rattle.std.specs.Prelude.{◌≡◌, ◌≤◌, ℕ, List, []}
use Rattle.account_book.specs.Filed.{IsFree}
use Rattle.account_book.specs.declared.directory.DirectoryRoom.{DirectoryRoom}

-- for how many accounts and systems
pub record Room : Type 0 where
  pub accounts : ℕ
  pub systems : ℕ

-- directories without numbers, with room for so many accounts and systems
pub record AreFree (accounts systems : ℕ) (room : DirectoryRoom) : Type 0 where
  pub of_accounts : IsFree accounts room.accounts
  pub of_systems : IsFree systems room.systems
  pub of_banks : IsFree accounts room.banks

-- a list without items, of a capacity for so many
abbrev pub HasRoom : {T : Type 0} → ℕ → List T → ℕ → Type 0
HasRoom most items capacity = (items ≡ []) × (most ≤ capacity)
