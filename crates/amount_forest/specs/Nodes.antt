-- Nodes, one for each entry. Each stands over some places of its list, the last of which is its own, and has the least amount of
-- these. Where they are more than one, they are its own and those of two other nodes: the node at the place before its own, and the
-- node at the place before that one's start.
use Rattle.std.specs.Prelude.{◌≡◌, ◌≢◌, ℕ, ◌+◌, ◌<◌, ◌≤◌, ◌⊎◌, List, Option, None, cond, length, nat_eq, slice_index_or, slice_set}
use Rattle.least_tree.specs.Amounts.{amount_at, least}
use Rattle.amount_forest.specs.declared.node.Entry.{Entry}
use Rattle.amount_forest.specs.declared.node.Link.{Link}
use Rattle.amount_forest.specs.declared.node.TheConstants.{NONE}
use Rattle.amount_forest.specs.Lists.{amounts_of, rank}

abbrev pub entry_at : List Entry → ℕ → Entry
entry_at entries i = slice_index_or entries i (record { list = 0; number = 0; amount = None })

abbrev pub link_at : List Link → ℕ → Link
link_at links i = slice_index_or links i (record { place = 0; start = 0; prev = 0; jump = 0; up = 0 })

abbrev pub list_of : List Entry → ℕ → ℕ
list_of entries i = (entry_at entries i).list

abbrev pub amount_of : List Entry → ℕ → Option ℕ
amount_of entries i = (entry_at entries i).amount

abbrev pub number_of : List Entry → ℕ → ℕ
number_of entries i = (entry_at entries i).number

abbrev pub place_of : List Link → ℕ → ℕ
place_of links i = (link_at links i).place

abbrev pub start_of : List Link → ℕ → ℕ
start_of links i = (link_at links i).start

abbrev pub prev_of : List Link → ℕ → ℕ
prev_of links i = (link_at links i).prev

abbrev pub jump_of : List Link → ℕ → ℕ
jump_of links i = (link_at links i).jump

abbrev pub up_of : List Link → ℕ → ℕ
up_of links i = (link_at links i).up

-- the second node of a node that has two
abbrev pub second_of : List Link → ℕ → ℕ
second_of links i = jump_of links (prev_of links i)

-- the node `to` is that of the place before this one, in the list of a node that came after it
pub record LeadsTo (entries : List Entry) (links : List Link) (i to place : ℕ) : Type 0 where
  pub earlier : to < i
  pub same_list : list_of entries to ≡ list_of entries i
  pub next : place_of links to + 1 ≡ place

-- the node has two others, which end where it says, and say that they are of it
pub record HasTwo (links : List Link) (i : ℕ) : Type 0 where
  pub first : 0 < start_of links (prev_of links i)
  pub second : start_of links (second_of links i) ≡ start_of links i
  pub first_up : up_of links (prev_of links i) ≡ i
  pub second_up : up_of links (second_of links i) ≡ i

-- each node is at the place that its entry has in its list, and stands over places that are all over or under those of another one
pub record IsLinked (entries : List Entry) (links : List Link) : Type 0 where
  pub size : length links ≡ length entries
  pub place : (i : ℕ) → i < length entries → place_of links i ≡ rank (list_of entries i) i entries
  pub start : (i : ℕ) → i < length entries → start_of links i ≤ place_of links i
  pub prev : (i : ℕ) → i < length entries → 0 < place_of links i → LeadsTo entries links i (prev_of links i) (place_of links i)
  pub jump : (i : ℕ) → i < length entries → 0 < start_of links i → LeadsTo entries links i (jump_of links i) (start_of links i)
  pub two : (i : ℕ) → i < length entries → start_of links i < place_of links i → HasTwo links i
  pub nested : (i k : ℕ) → i < length entries → k < length entries → list_of entries i ≡ list_of entries k → start_of links k ≤ place_of links i → place_of links i ≤ place_of links k → start_of links k ≤ start_of links i
  pub up : (i : ℕ) → i < length entries → up_of links i ≢ NONE → i < up_of links i
  pub up_within : (i : ℕ) → i < length entries → up_of links i ≢ NONE → up_of links i < length entries

-- the least amount of those that a node stands over, by those of the nodes under it
abbrev pub least_for : List Entry → List Link → List (Option ℕ) → ℕ → Option ℕ
least_for entries links leasts i =
    cond (nat_eq (start_of links i) (place_of links i))
    (amount_of entries i)
    (least (amount_of entries i) (least (amount_at leasts (prev_of links i)) (amount_at leasts (second_of links i))))

abbrev pub IsMended : List Entry → List Link → List (Option ℕ) → ℕ → Type 0
IsMended entries links leasts i = amount_at leasts i ≡ least_for entries links leasts i

-- nodes that all have the least amounts of those that they stand over
pub record IsPool (entries : List Entry) (links : List Link) (leasts : List (Option ℕ)) : Type 0 where
  pub linked : IsLinked entries links
  pub size : length leasts ≡ length entries
  pub mended : (i : ℕ) → i < length entries → IsMended entries links leasts i

-- the node of the last amount of a list
pub record IsEnd (entries : List Entry) (links : List Link) (list node : ℕ) : Type 0 where
  pub within : node < length entries
  pub of_list : list_of entries node ≡ list
  pub last : place_of links node + 1 ≡ length (amounts_of list entries)

-- the node of the last amount of a list, or none
pub record IsLast (entries : List Entry) (links : List Link) (list node : ℕ) : Type 0 where
  pub none : node ≡ NONE → length (amounts_of list entries) ≡ 0
  pub some : node ≢ NONE → IsEnd entries links list node

-- what stays of a node when others come
pub record IsKept (old new : Link) : Type 0 where
  pub place : new.place ≡ old.place
  pub start : new.start ≡ old.start
  pub prev : new.prev ≡ old.prev
  pub jump : new.jump ≡ old.jump

-- a node is said to be of another one
abbrev pub raised : List Link → ℕ → ℕ → List Link
raised links i up = slice_set links i (record (link_at links i) { up = up })

-- the node at the place before this one of a list
pub record Precedes (entries : List Entry) (links : List Link) (list to place : ℕ) : Type 0 where
  pub within : to < length entries
  pub of_list : list_of entries to ≡ list
  pub next : place_of links to + 1 ≡ place

-- the node is not one of the two of any other
abbrev pub IsFree : List Link → ℕ → Type 0
IsFree links i = (k : ℕ) → k < length links → start_of links k < place_of links k → (prev_of links k ≢ i) × (second_of links k ≢ i)

-- a node that can come next in a list, after it was said of its two nodes that they are of it
pub record IsNew (entries : List Entry) (old new : List Link) (list : ℕ) (link : Link) : Type 0 where
  pub len : length new ≡ length old
  pub kept : (i : ℕ) → IsKept (link_at old i) (link_at new i)
  pub ups : (i : ℕ) → (up_of new i ≡ up_of old i) ⊎ ((up_of new i ≡ length old) × IsFree old i)
  pub place : link.place ≡ length (amounts_of list entries)
  pub start : link.start ≤ link.place
  pub prev : 0 < link.place → Precedes entries old list link.prev link.place
  pub jump : 0 < link.start → Precedes entries old list link.jump link.start
  pub first : link.start < link.place → 0 < start_of old link.prev
  pub second : link.start < link.place → start_of old (jump_of old link.prev) ≡ link.start
  pub first_up : link.start < link.place → up_of new link.prev ≡ length old
  pub second_up : link.start < link.place → up_of new (jump_of old link.prev) ≡ length old
  pub nested : (i : ℕ) → i < length entries → list_of entries i ≡ list → link.start ≤ place_of old i → link.start ≤ start_of old i
  pub top : link.up ≡ NONE
