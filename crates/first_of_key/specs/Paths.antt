-- The nodes that a search for a key comes to, and what makes it find each key.
use Rattle.std.specs.Prelude.{◌≡◌, ◌≢◌, ℕ, ◌<◌, ◌≤◌, Bool, true, false, List, cond, length, zero, suc, slice_index_or, slice_set, Option, None, Some}
use Rattle.first_of_key.specs.declared.key.Key.{Key}
use Rattle.first_of_key.specs.declared.node.Node.{Node}
use Rattle.first_of_key.specs.declared.node.Place.{Place}
use Rattle.first_of_key.specs.declared.node.Place.TheVariants.{Head, Taken, Free}
use Rattle.first_of_key.specs.declared.node.TheConstants.{NONE}
use Rattle.first_of_key.specs.First.{no_key}
use Rattle.first_of_key.specs.Sides.{head, side, IsWhole}

-- a node that leads nowhere
abbrev pub leaf : Key → Node
leaf key = record { key = key; zero = NONE; one = NONE }

-- trees: the heads lead to their first nodes, and the nodes of all stand in one list
pub record Tree : Type 0 where
  pub heads : List ℕ
  pub nodes : List Node

abbrev pub tree : List ℕ → List Node → Tree
tree heads nodes = record { heads = heads; nodes = nodes }

abbrev pub node_at : Tree → ℕ → Node
node_at t i = slice_index_or t.nodes i (leaf no_key)

-- where a head leads to
abbrev pub head_at : Tree → ℕ → ℕ
head_at t h = slice_index_or t.heads h NONE

-- where a node leads to on a side
abbrev pub link : Bool → Node → ℕ
link b node = cond b node.one node.zero

-- a node that leads to another one on a side
abbrev pub linked : Bool → Node → ℕ → Node
linked true node to = record node { one = to }
linked false node to = record node { zero = to }

-- the node that a search for a key has come to after so many steps
unfoldable pub reached : Tree → Key → ℕ → ℕ
reached t key zero = head_at t (head (length t.heads) key)
reached t key (suc d) = link (side key d) (node_at t (reached t key d))

-- a search for the key comes to a node with this key, at or before a number
pub record IsFound (t : Tree) (key : Key) (number : ℕ) : Type 0 where
  pub depth : ℕ
  pub at_most : reached t key depth ≤ number
  pub same : (node_at t (reached t key depth)).key ≡ key

-- heads lead to nodes, and nodes only to nodes that came after them
pub record IsDownward (t : Tree) : Type 0 where
  pub first : (h : ℕ) → head_at t h ≢ NONE → head_at t h < length t.nodes
  pub behind : (i : ℕ) (b : Bool) → i < length t.nodes → i < link b (node_at t i)
  pub inside : (i : ℕ) (b : Bool) → i < length t.nodes → link b (node_at t i) ≢ NONE → link b (node_at t i) < length t.nodes

-- a search for the key of each node comes to this key, no later than at it; all that come to a node have taken as many steps, and
-- the same sides as its key takes
pub record IsSearchable (t : Tree) : Type 0 where
  pub some : 0 < length t.heads
  pub downward : IsDownward t
  pub found : (k : ℕ) → k < length t.nodes → IsFound t (node_at t k).key k
  pub level : (p q : Key) (d e : ℕ) → reached t p d < length t.nodes → reached t p d ≡ reached t q e → d ≡ e
  pub along : (q : Key) (d i : ℕ) → reached t q d < length t.nodes → i < d → side (node_at t (reached t q d)).key i ≡ side q i
  pub whole : (k : ℕ) → k < length t.nodes → IsWhole (node_at t k).key

-- no node before a depth has the key
abbrev pub IsUnmet : Tree → Key → ℕ → Type 0
IsUnmet t key depth = (d : ℕ) → d < depth → (node_at t (reached t key d)).key ≢ key

-- a search has come to a node
pub record IsAt (t : Tree) (key : Key) (at depth : ℕ) : Type 0 where
  pub within : at < length t.nodes
  pub is : at ≡ reached t key depth
  pub unmet : IsUnmet t key depth

-- where a search for a key ends
abbrev pub IsEnd : Tree → Key → Place → Type 0
IsEnd t key (Head h) = (h ≡ head (length t.heads) key) × (head_at t h ≡ NONE)
IsEnd t key (Taken at) = (depth : ℕ) × IsAt t key at depth × ((node_at t at).key ≡ key)
IsEnd t key (Free at one) = (depth : ℕ) × IsAt t key at depth × ((node_at t at).key ≢ key) × (one ≡ side key depth) × (link one (node_at t at) ≡ NONE)

-- the heads after the place where a search ended was let lead to a node
abbrev pub heads_with : List ℕ → Place → ℕ → List ℕ
heads_with heads (Head h) to = slice_set heads h to
heads_with heads (Taken at) to = heads
heads_with heads (Free at one) to = heads

-- and the nodes
abbrev pub nodes_with : List Node → Place → ℕ → List Node
nodes_with nodes (Head h) to = nodes
nodes_with nodes (Taken at) to = nodes
nodes_with nodes (Free at one) to = slice_set nodes at (linked one (slice_index_or nodes at (leaf no_key)) to)

abbrev pub IsWithin : List ℕ → List Node → Place → Type 0
IsWithin heads nodes (Head h) = h < length heads
IsWithin heads nodes (Taken at) = Unit {0}
IsWithin heads nodes (Free at one) = at < length nodes

-- the number of the node with the key
abbrev pub number_of : Place → Option ℕ
number_of (Head h) = None
number_of (Taken at) = Some at
number_of (Free at one) = None
