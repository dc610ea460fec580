-- Where a number stands among rising ones, and how it is found.
use Rattle.std.specs.Prelude.{◌≡◌, ℕ, ◌<◌, ◌≤◌, List, Option, Some, None, length, slice_index}
use Rattle.amount_forest.specs.declared.node.Entry.{Entry}
use Rattle.amount_forest.specs.declared.node.Link.{Link}
use Rattle.amount_forest.specs.Nodes.{list_of, number_of, place_of, prev_of}

-- where a number stands, or would stand: all before it are less, and none from it on
pub record IsPlace (numbers : List ℕ) (number place : ℕ) : Type 0 where
  pub within : place ≤ length numbers
  pub less : (j : ℕ) → j < place → slice_index numbers j < number
  pub others : (j : ℕ) → place ≤ j → j < length numbers → number ≤ slice_index numbers j

-- the node at the place before this one, if there is one, has a lesser number
pub record IsNoneEarlier (entries : List Entry) (links : List Link) (at number : ℕ) : Type 0 where
  pub before : 0 < place_of links at → number_of entries (prev_of links at) < number

-- a node of the list at an earlier place, whose number is no less
pub record IsOneEarlier (entries : List Entry) (at number to : ℕ) : Type 0 where
  pub earlier : to < at
  pub same_list : list_of entries to ≡ list_of entries at
  pub no_less : number ≤ number_of entries to

abbrev pub IsEarlier : List Entry → List Link → ℕ → ℕ → Option ℕ → Type 0
IsEarlier entries links at number None = IsNoneEarlier entries links at number
IsEarlier entries links at number (Some to) = IsOneEarlier entries at number to
