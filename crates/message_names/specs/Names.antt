-- What contracts see: the names in the order in which they were entered, and the first of them that is equal to a name.
use Rattle.std.specs.Prelude.{ℕ, ◌≡◌, ◌<◌, Bool, true, false, ◌&&◌, List, Option, None, Some, slice_get}
use Rattle.std.specs.List.{position_from}
use Rattle.cash_amounts.specs.Tests.{same_name}

-- who sends a message, and the identification that its sender gave it
pub record MessageName : Type 0 where
  pub sender : List ℕ
  pub id : List ℕ

-- the names, and how many there can be at most
pub record Named : Type 0 where
  pub names : List MessageName
  pub most : ℕ

-- whether a name has this sender
abbrev pub is_from : List ℕ → MessageName → Bool
is_from sender name = same_name name.sender sender

-- and this identification
abbrev pub is_called : List ℕ → List ℕ → MessageName → Bool
is_called sender id name = same_name name.sender sender && same_name name.id id

-- the number of the first name of this sender and this identification; none exactly where there is none
abbrev pub first_of : List MessageName → List ℕ → List ℕ → Option ℕ
first_of names sender id = position_from (is_called sender id) 0 names

abbrev pub is_name_from : List ℕ → Option MessageName → Bool
is_name_from sender None = false
is_name_from sender (Some name) = is_from sender name

-- whether there is a name of this number, and it has this sender
abbrev pub has_sender : List MessageName → List ℕ → ℕ → Bool
has_sender names sender i = is_name_from sender (slice_get names i)

-- of the numbers below one the last whose name has this sender; none exactly where no name of these numbers has
abbrev pub IsLastBefore : List MessageName → List ℕ → ℕ → Option ℕ → Type 0
IsLastBefore names sender i None = (k : ℕ) → k < i → has_sender names sender k ≡ false
IsLastBefore names sender i (Some j) = (j < i) × (has_sender names sender j ≡ true) × ((k : ℕ) → j < k → k < i → has_sender names sender k ≡ false)

-- ---- names of parties and accounts

-- the names, and how many there can be at most
pub record Listed : Type 0 where
  pub names : List (List ℕ)
  pub most : ℕ

-- the number of the first of them that is this one; none exactly where there is none
abbrev pub first_named : List (List ℕ) → List ℕ → Option ℕ
first_named names name = position_from (λ own. same_name own name) 0 names
