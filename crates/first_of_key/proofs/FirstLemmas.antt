-- The number that a search gives is that of the first key.
use Rattle.std.proofs.Common.{◌≡◌, ℕ, ◌+◌, ◌<◌, ◌≤◌, List, length, map, ap, sym, ◌∙◌, arith}
use Rattle.std.proofs.Math.ListN.{get_or-map}
use Rattle.std.proofs.lemmas.List.{length-map}
use Rattle.first_of_key.specs.declared.key.Key.{Key}
use Rattle.first_of_key.specs.declared.node.Node.{Node}
use Rattle.first_of_key.specs.declared.node.Place.{Place}
use Rattle.first_of_key.specs.declared.node.Place.TheVariants.{Head, Taken, Free}
use Rattle.first_of_key.specs.declared.node.TheConstants.{NONE}
use Rattle.first_of_key.specs.First.{no_key, key_at, IsFirstOf}
use Rattle.first_of_key.specs.Sides.{side}
use Rattle.first_of_key.specs.Paths.{Tree, leaf, node_at, head_at, link, reached, IsSearchable, IsAt, IsEnd, number_of}
use Rattle.first_of_key.proofs.PathLemmas.{none_before, unmet_more, reached-zero, reached-suc}

abbrev pub keys_of : List Node → List Key
keys_of nodes = map (λ (n : Node). n.key) nodes

pub key-of : (t : Tree) (k : ℕ) → key_at (keys_of t.nodes) k ≡ (node_at t k).key
key-of t k = get_or-map (λ (n : Node). n.key) t.nodes k (leaf no_key)

pub length-keys : (nodes : List Node) → length (keys_of nodes) ≡ length nodes
length-keys nodes = length-map nodes (λ (n : Node). n.key)

pub number_is : (t : Tree) (key : Key) (place : Place) → length t.nodes ≤ NONE → IsSearchable t → IsEnd t key place → IsFirstOf (keys_of t.nodes) key (number_of place)
number_is t key (Head h) small s end =
    λ k within e.
    let len : length (keys_of t.nodes) ≡ length t.nodes = length-keys t.nodes in
    let first : reached t key 0 ≡ NONE = reached-zero t key ∙ (ap (head_at t) (sym end.0) ∙ end.1) in
    none_before t key 0 k small s (λ d before _. absurd (omega arith)) (omega arith) (omega arith) (sym (key-of t k) ∙ e)
number_is t key (Taken at) small s end =
    let here : IsAt t key at end.0 = end.1 in
    let len : length (keys_of t.nodes) ≡ length t.nodes = length-keys t.nodes in
    let is : at ≡ reached t key end.0 = here.is in
    record {
      within = let inner : at < length t.nodes = here.within in omega arith;
      same = key-of t at ∙ end.2;
      none_before = λ k before e. none_before t key end.0 k small s here.unmet (omega arith) (let inner : at < length t.nodes = here.within in omega arith) (sym (key-of t k) ∙ e);
    }
number_is t key (Free at one) small s end =
    λ k within e.
    let here : IsAt t key at end.0 = end.1 in
    let len : length (keys_of t.nodes) ≡ length t.nodes = length-keys t.nodes in
    let next : reached t key (end.0 + 1) ≡ NONE = reached-suc t key end.0 ∙ (ap (λ (i : ℕ). link (side key end.0) (node_at t i)) (sym here.is) ∙ (ap (λ b. link b (node_at t at)) (sym end.3) ∙ end.4)) in
    none_before t key (end.0 + 1) k small s (unmet_more t key at end.0 here.unmet here.is end.2) (omega arith) (omega arith) (sym (key-of t k) ∙ e)
