-- Where the first place that fits is known to be.
use Rattle.std.specs.Prelude.{◌≡◌, ℕ, ◌<◌, ◌≤◌, Bool, true, false, cond, List, Option, length, nat_lt}
use Rattle.least_tree.specs.Amounts.{amount_at, fits, fits_at}
use Rattle.number_set.specs.Next.{IsLeast}
use Rattle.amount_forest.specs.declared.node.Entry.{Entry}
use Rattle.amount_forest.specs.declared.node.Link.{Link}
use Rattle.amount_forest.specs.declared.search.Turn.{Turn}
use Rattle.amount_forest.specs.declared.search.Turn.TheVariants.{Nowhere, At, Under}
use Rattle.amount_forest.specs.Lists.{amounts_of}
use Rattle.amount_forest.specs.Nodes.{list_of, start_of}

-- whether the amount at a place of a list is there and at most this much
abbrev pub fits_in : List Entry → ℕ → ℕ → ℕ → Bool
fits_in entries list most place = fits_at (amounts_of list entries) most place

-- no place from the first to the second one fits
abbrev pub NoneFits : List Entry → ℕ → ℕ → ℕ → ℕ → Type 0
NoneFits entries list most from to = (k : ℕ) → from ≤ k → k < to → fits_in entries list most k ≡ false

-- a node that stands over a place that fits, and no place before those that it stands over fits
pub record IsUnder (entries : List Entry) (links : List Link) (leasts : List (Option ℕ)) (list most from node : ℕ) : Type 0 where
  pub within : node < length entries
  pub of_list : list_of entries node ≡ list
  pub passes : fits most (amount_at leasts node) ≡ true
  pub behind : from ≤ start_of links node
  pub none_before : NoneFits entries list most from (start_of links node)

abbrev pub LeadsOn : List Entry → List Link → List (Option ℕ) → ℕ → ℕ → ℕ → Turn → Type 0
LeadsOn entries links leasts list most from Nowhere = (k : ℕ) → from ≤ k → fits_in entries list most k ≡ false
LeadsOn entries links leasts list most from (At place) = IsLeast (fits_in entries list most) from place
LeadsOn entries links leasts list most from (Under node) = IsUnder entries links leasts list most from node

-- how far to the front a node is looked at in a search from a place on
abbrev pub reach : Link → ℕ → ℕ
reach link from = cond (nat_lt link.start from) link.place link.start

-- the node at the place before
abbrev pub before : Link → ℕ → ℕ
before link from = cond (nat_lt link.start from) link.prev link.jump
