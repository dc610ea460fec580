-- A search finds each key after one more has been entered.
use Rattle.std.proofs.Common.{◌≡◌, ◌≢◌, ℕ, ◌+◌, ◌<◌, ◌≤◌, Bool, true, false, List, [], ◌∷◌, ◌++◌, length, set, zero, suc, refl, ap, sym, ◌∙◌, subst, ◌⊎◌, inl, inr, ⊎_elim, arith, replicate, length-append, get_or-set_same, get_or-set_other}
use Rattle.std.proofs.Math.ListN.{get_or-append}
use Rattle.std.proofs.Math.Seq.{get_or-append_seam, map-set_same}
use Rattle.std.proofs.lemmas.Bool.{cases_lt, cases_eq}
use Rattle.std.proofs.lemmas.List.{length-set, length-replicate, get_or-replicate, get_or_past, map-append}
use Rattle.first_of_key.specs.declared.key.Key.{Key}
use Rattle.first_of_key.specs.declared.node.Node.{Node}
use Rattle.first_of_key.specs.declared.node.Place.{Place}
use Rattle.first_of_key.specs.declared.node.Place.TheVariants.{Head, Taken, Free}
use Rattle.first_of_key.specs.declared.node.TheConstants.{NONE}
use Rattle.first_of_key.specs.First.{no_key}
use Rattle.first_of_key.specs.Sides.{head, side, IsWhole}
use Rattle.first_of_key.specs.Paths.{Tree, tree, leaf, node_at, head_at, link, linked, reached, IsFound, IsDownward, IsSearchable, IsAt, IsEnd, heads_with, nodes_with, IsWithin}
use Rattle.first_of_key.proofs.FirstLemmas.{keys_of}
use Rattle.first_of_key.proofs.PathLemmas.{next_rises, reached_low, reached-zero, reached-suc, none_of}

-- one more node; keys stay, and so does where heads and nodes lead to
record Grown (old new : Tree) : Type 0 where
  heads_len : length new.heads ≡ length old.heads
  first : (h : ℕ) → head_at old h ≢ NONE → head_at new h ≡ head_at old h
  first_back : (h : ℕ) → head_at new h < length old.nodes → head_at new h ≡ head_at old h
  len : length new.nodes ≡ length old.nodes + 1
  keys : (k : ℕ) → k < length old.nodes → (node_at new k).key ≡ (node_at old k).key
  links : (i : ℕ) (b : Bool) → i < length old.nodes → link b (node_at old i) ≢ NONE → link b (node_at new i) ≡ link b (node_at old i)
  back : (i : ℕ) (b : Bool) → i < length old.nodes → link b (node_at new i) < length old.nodes → link b (node_at new i) ≡ link b (node_at old i)

past_end : (t : Tree) (b : Bool) (i : ℕ) → length t.nodes ≤ i → length t.nodes ≤ NONE → link b (node_at t i) < length t.nodes → ⊥
past_end t b i past small inner =
    let none : link b (node_at t i) ≡ NONE = ap (link b) (get_or_past t.nodes i (leaf no_key) past) ∙ none_of b in
    omega arith

kept : (old new : Tree) (key : Key) (d : ℕ) → length old.nodes ≤ NONE → IsDownward old → Grown old new → reached old key d < length old.nodes → reached new key d ≡ reached old key d
kept old new key zero small s g within =
    let h : ℕ = head (length old.heads) key in
    let is : reached old key zero ≡ head_at old h = reached-zero old key in
    let some : head_at old h < length old.nodes = omega arith in
    reached-zero new key ∙ (ap (λ (n : ℕ). head_at new (head n key)) g.heads_len ∙ (g.first h (λ e. omega arith) ∙ sym is))
kept old new key (suc d) small s g within =
    let n : suc d ≡ d + 1 = omega arith in
    let b : Bool = side key d in
    let r : ℕ = reached old key d in
    let is : reached old key (suc d) ≡ link b (node_at old r) = ap (reached old key) n ∙ reached-suc old key d in
    let inner : link b (node_at old r) < length old.nodes = omega arith in
    let before : r < length old.nodes =
    ⊎_elim
    (λ (h : r < length old.nodes). h)
    (λ (h : length old.nodes ≤ r). absurd (past_end old b r h small inner))
    (cases_lt r (length old.nodes)) in
    let rises : r ≤ link b (node_at old r) = next_rises old b r small s (omega arith) in
    let same : reached new key d ≡ r = kept old new key d small s g before in
    let next : link b (node_at new r) ≡ link b (node_at old r) = g.links r b before (λ e. omega arith) in
    ap (reached new key) n ∙ (reached-suc new key d ∙ (ap (λ (i : ℕ). link b (node_at new i)) same ∙ (next ∙ sym is)))

-- a node that was there is come to as it was
was : (old new : Tree) (key : Key) (d : ℕ) → length new.nodes ≤ NONE → IsDownward new → Grown old new → reached new key d < length old.nodes → reached old key d ≡ reached new key d
was old new key zero small s g within =
    let h : ℕ = head (length old.heads) key in
    let is : reached new key zero ≡ head_at new h = reached-zero new key ∙ ap (λ (n : ℕ). head_at new (head n key)) g.heads_len in
    let some : head_at new h < length old.nodes = omega arith in
    reached-zero old key ∙ (sym (g.first_back h some) ∙ sym is)
was old new key (suc d) small s g within =
    let n : suc d ≡ d + 1 = omega arith in
    let b : Bool = side key d in
    let r : ℕ = reached new key d in
    let is : reached new key (suc d) ≡ link b (node_at new r) = ap (reached new key) n ∙ reached-suc new key d in
    let rises : r ≤ link b (node_at new r) = next_rises new b r small s (reached_low new key d small s) in
    let same : reached old key d ≡ r = was old new key d small s g (omega arith) in
    let next : link b (node_at new r) ≡ link b (node_at old r) = g.back r b (omega arith) (omega arith) in
    ap (reached old key) n ∙ (reached-suc old key d ∙ (ap (λ (i : ℕ). link b (node_at old i)) same ∙ (sym next ∙ sym is)))

found_more : (old new : Tree) (k : ℕ) → length old.nodes ≤ NONE → IsSearchable old → Grown old new → k < length old.nodes → IsFound new (node_at new k).key k
found_more old new k small s g within =
    let key : Key = (node_at old k).key in
    let f : IsFound old key k = s.found k within in
    let low : reached old key f.depth ≤ k = f.at_most in
    let same : reached new key f.depth ≡ reached old key f.depth = kept old new key f.depth small s.downward g (omega arith) in
    let there : IsFound new key k = record {
      depth = f.depth;
      at_most = omega arith;
      same = ap (λ (i : ℕ). (node_at new i).key) same ∙ (g.keys (reached old key f.depth) (omega arith) ∙ f.same);
    } in
    subst (λ (x : Key). IsFound new x k) (sym (g.keys k within)) there

-- what led nowhere leads to a number
record IsTurned (old new to : ℕ) : Type 0 where
  nowhere : old ≡ NONE
  now : new ≡ to

-- keys stay, and heads and nodes lead to where they led to, but what led nowhere may now lead to this number
record Hung (old new : Tree) (to : ℕ) : Type 0 where
  heads_len : length new.heads ≡ length old.heads
  len : length new.nodes ≡ length old.nodes
  keys : (k : ℕ) → (node_at new k).key ≡ (node_at old k).key
  heads : (h : ℕ) → (head_at new h ≡ head_at old h) ⊎ IsTurned (head_at old h) (head_at new h) to
  links : (i : ℕ) (b : Bool) → (link b (node_at new i) ≡ link b (node_at old i)) ⊎ IsTurned (link b (node_at old i)) (link b (node_at new i)) to

hung_same : (t : Tree) (to : ℕ) → Hung t t to
hung_same t to = record { heads_len = refl; len = refl; keys = λ k. refl; heads = λ h. inl refl; links = λ i b. inl refl }

-- a head that leads to the new node
abbrev headed : Tree → ℕ → ℕ → Tree
headed t h to = tree (set t.heads h to) t.nodes

head_here : (t : Tree) (h to : ℕ) → h < length t.heads → head_at (headed t h to) h ≡ to
head_here t h to within = get_or-set_same t.heads h to NONE within

head_other : (t : Tree) (h to g : ℕ) → g ≢ h → head_at (headed t h to) g ≡ head_at t g
head_other t h to g ne = get_or-set_other t.heads h g to NONE ne

hung_head : (t : Tree) (h to : ℕ) → h < length t.heads → head_at t h ≡ NONE → Hung t (headed t h to) to
hung_head t h to within none =
    record {
      heads_len = length-set t.heads h to;
      len = refl;
      keys = λ k. refl;
      heads = λ g.
          ⊎_elim
          (λ (e : g ≡ h). inr (record { nowhere = ap (head_at t) e ∙ none; now = ap (head_at (headed t h to)) e ∙ head_here t h to within }))
          (λ (ne : g ≢ h). inl (head_other t h to g ne))
          (cases_eq g h);
      links = λ i b. inl refl;
    }

linked_keys : (one : Bool) (node : Node) (to : ℕ) → (linked one node to).key ≡ node.key
linked_keys true node to = refl
linked_keys false node to = refl

linked_same : (one : Bool) (node : Node) (to : ℕ) → link one (linked one node to) ≡ to
linked_same true node to = refl
linked_same false node to = refl

-- a node leads where it led to on the other side
linked_other : (b one : Bool) (node : Node) (to : ℕ) → (link b (linked one node to) ≡ link b node) ⊎ (b ≡ one)
linked_other true true node to = inr refl
linked_other true false node to = inl refl
linked_other false true node to = inl refl
linked_other false false node to = inr refl

-- a node that leads to the new one on a side
abbrev turned : Tree → ℕ → Bool → ℕ → Tree
turned t at one to = tree t.heads (set t.nodes at (linked one (node_at t at) to))

turned_here : (t : Tree) (at : ℕ) (one : Bool) (to : ℕ) → at < length t.nodes → node_at (turned t at one to) at ≡ linked one (node_at t at) to
turned_here t at one to within = get_or-set_same t.nodes at (linked one (node_at t at) to) (leaf no_key) within

turned_elsewhere : (t : Tree) (at : ℕ) (one : Bool) (to i : ℕ) → i ≢ at → node_at (turned t at one to) i ≡ node_at t i
turned_elsewhere t at one to i ne = get_or-set_other t.nodes at i (linked one (node_at t at) to) (leaf no_key) ne

-- links stay, but that one
turned_links : (t : Tree) (at : ℕ) (one : Bool) (to i : ℕ) (b : Bool) → at < length t.nodes → (link b (node_at (turned t at one to) i) ≡ link b (node_at t i)) ⊎ ((i ≡ at) × (b ≡ one))
turned_links t at one to i b within =
    ⊎_elim
    (λ (e : i ≡ at).
    ⊎_elim
    (λ (same : link b (linked one (node_at t at) to) ≡ link b (node_at t at)).
    inl (ap (λ (j : ℕ). link b (node_at (turned t at one to) j)) e ∙ (ap (link b) (turned_here t at one to within) ∙ (same ∙ ap (λ (j : ℕ). link b (node_at t j)) (sym e)))))
    (λ (side_is : b ≡ one). inr (e, side_is))
    (linked_other b one (node_at t at) to))
    (λ (ne : i ≢ at). inl (ap (link b) (turned_elsewhere t at one to i ne)))
    (cases_eq i at)

hung_there : (t : Tree) (at : ℕ) (one : Bool) (to : ℕ) → at < length t.nodes → link one (node_at t at) ≡ NONE → Hung t (turned t at one to) to
hung_there t at one to within none =
    record {
      heads_len = refl;
      len = length-set t.nodes at (linked one (node_at t at) to);
      keys = λ k.
          ⊎_elim
          (λ (e : k ≡ at). subst (λ (i : ℕ). (node_at (turned t at one to) i).key ≡ (node_at t i).key) (sym e) (ap (λ (n : Node). n.key) (turned_here t at one to within) ∙ linked_keys one (node_at t at) to))
          (λ (ne : k ≢ at). ap (λ (n : Node). n.key) (turned_elsewhere t at one to k ne))
          (cases_eq k at);
      heads = λ h. inl refl;
      links = λ i b.
          ⊎_elim
          (λ (e : link b (node_at (turned t at one to) i) ≡ link b (node_at t i)). inl e)
          (λ (e : (i ≡ at) × (b ≡ one)).
          inr (record {
            nowhere = ap (λ (j : ℕ). link b (node_at t j)) e.0 ∙ (ap (λ (c : Bool). link c (node_at t at)) e.1 ∙ none);
            now = ap (λ (j : ℕ). link b (node_at (turned t at one to) j)) e.0 ∙ (ap (λ (c : Bool). link c (node_at (turned t at one to) at)) e.1 ∙ (ap (link one) (turned_here t at one to within) ∙ linked_same one (node_at t at) to));
          }))
          (turned_links t at one to i b within);
    }

-- a leaf more
abbrev more : Tree → Key → Tree
more t key = tree t.heads (t.nodes ++ leaf key ∷ [])

old_node : (t : Tree) (key : Key) (i : ℕ) → i < length t.nodes → node_at (more t key) i ≡ node_at t i
old_node t key i within = get_or-append t.nodes (leaf key ∷ []) (leaf no_key) i within

new_node : (t : Tree) (key : Key) → node_at (more t key) (length t.nodes) ≡ leaf key
new_node t key = get_or-append_seam t.nodes (leaf key) [] (leaf no_key)

leaf_links : (b : Bool) (key : Key) → link b (leaf key) ≡ NONE
leaf_links true key = refl
leaf_links false key = refl

grown : (old hs : Tree) (key : Key) → Hung old hs (length old.nodes) → Grown old (more hs key)
grown old hs key h =
    let len : length hs.nodes ≡ length old.nodes = h.len in
    record {
      heads_len = h.heads_len;
      first = λ g some.
          ⊎_elim
          (λ (e : head_at hs g ≡ head_at old g). e)
          (λ (e : IsTurned (head_at old g) (head_at hs g) (length old.nodes)). absurd (some e.nowhere))
          (h.heads g);
      first_back = λ g inner.
          ⊎_elim
          (λ (e : head_at hs g ≡ head_at old g). e)
          (λ (e : IsTurned (head_at old g) (head_at hs g) (length old.nodes)). let to = e.now in absurd (omega arith))
          (h.heads g);
      len = length-append hs.nodes (leaf key ∷ []) ∙ ap (λ n. n + 1) len;
      keys = λ k within. ap (λ (n : Node). n.key) (old_node hs key k (omega arith)) ∙ h.keys k;
      links = λ i b within some.
          ap (link b) (old_node hs key i (omega arith))
          ∙ ⊎_elim
          (λ (e : link b (node_at hs i) ≡ link b (node_at old i)). e)
          (λ (e : IsTurned (link b (node_at old i)) (link b (node_at hs i)) (length old.nodes)). absurd (some e.nowhere))
          (h.links i b);
      back = λ i b within inner.
          let is : link b (node_at (more hs key) i) ≡ link b (node_at hs i) = ap (link b) (old_node hs key i (omega arith)) in
          is
          ∙ ⊎_elim
          (λ (e : link b (node_at hs i) ≡ link b (node_at old i)). e)
          (λ (e : IsTurned (link b (node_at old i)) (link b (node_at hs i)) (length old.nodes)). let to = e.now in absurd (omega arith))
          (h.links i b);
    }

end_is : (old hs : Tree) (key : Key) → length hs.nodes ≡ length old.nodes → node_at (more hs key) (length old.nodes) ≡ leaf key
end_is old hs key len = subst (λ (i : ℕ). node_at (more hs key) i ≡ leaf key) len (new_node hs key)

downward_with : (old hs : Tree) (key : Key) → length old.nodes < NONE → IsDownward old → Hung old hs (length old.nodes) → IsDownward (more hs key)
downward_with old hs key small s h =
    let g : Grown old (more hs key) = grown old hs key h in
    let len : length hs.nodes ≡ length old.nodes = h.len in
    let size : length (more hs key).nodes ≡ length old.nodes + 1 = g.len in
    let end : node_at (more hs key) (length old.nodes) ≡ leaf key = end_is old hs key len in
    record {
      first = λ g some.
          ⊎_elim
          (λ (e : head_at hs g ≡ head_at old g). let before : head_at old g < length old.nodes = s.first g (λ n. some (e ∙ n)) in omega arith)
          (λ (e : IsTurned (head_at old g) (head_at hs g) (length old.nodes)). let to = e.now in omega arith)
          (h.heads g);
      behind = λ i b within.
          ⊎_elim
          (λ (l : i < length old.nodes).
          let is : link b (node_at (more hs key) i) ≡ link b (node_at hs i) = ap (link b) (old_node hs key i (omega arith)) in
          let before : i < link b (node_at old i) = s.behind i b l in
          ⊎_elim
          (λ (e : link b (node_at hs i) ≡ link b (node_at old i)). omega arith)
          (λ (e : IsTurned (link b (node_at old i)) (link b (node_at hs i)) (length old.nodes)). let to = e.now in omega arith)
          (h.links i b))
          (λ (l : length old.nodes ≤ i).
          let e : i ≡ length old.nodes = omega arith in
          let is : link b (node_at (more hs key) i) ≡ NONE = ap (λ (j : ℕ). link b (node_at (more hs key) j)) e ∙ (ap (link b) end ∙ leaf_links b key) in
          omega arith)
          (cases_lt i (length old.nodes));
      inside = λ i b within some.
          ⊎_elim
          (λ (l : i < length old.nodes).
          let is : link b (node_at (more hs key) i) ≡ link b (node_at hs i) = ap (link b) (old_node hs key i (omega arith)) in
          ⊎_elim
          (λ (e : link b (node_at hs i) ≡ link b (node_at old i)).
          let before : link b (node_at old i) < length old.nodes = s.inside i b l (λ n. some (is ∙ (e ∙ n))) in
          omega arith)
          (λ (e : IsTurned (link b (node_at old i)) (link b (node_at hs i)) (length old.nodes)). let to = e.now in omega arith)
          (h.links i b))
          (λ (l : length old.nodes ≤ i).
          let e : i ≡ length old.nodes = omega arith in
          absurd (some (ap (λ (j : ℕ). link b (node_at (more hs key) j)) e ∙ (ap (link b) end ∙ leaf_links b key))))
          (cases_lt i (length old.nodes));
    }

-- whatever comes to the new node has taken so many steps, and the sides that its key takes
record IsNew (new : Tree) (key : Key) (number last : ℕ) : Type 0 where
  depth : (q : Key) (d : ℕ) → reached new q d ≡ number → d ≡ last
  sides : (q : Key) (d i : ℕ) → reached new q d ≡ number → i < d → side key i ≡ side q i

-- the node before the new one is an old one
before_it : (old new : Tree) (q : Key) (d : ℕ) → length new.nodes ≡ length old.nodes + 1 → length old.nodes < NONE → IsDownward new → reached new q (d + 1) ≡ length old.nodes → reached new q d < length old.nodes
before_it old new q d size small s is =
    let b : Bool = side q d in
    let r : ℕ = reached new q d in
    let next : reached new q (d + 1) ≡ link b (node_at new r) = reached-suc new q d in
    ⊎_elim
    (λ (l : r < length new.nodes). let rises : r < link b (node_at new r) = s.behind r b l in omega arith)
    (λ (l : length new.nodes ≤ r).
    let none : link b (node_at new r) ≡ NONE = ap (link b) (get_or_past new.nodes r (leaf no_key) l) ∙ none_of b in
    absurd (omega arith))
    (cases_lt r (length new.nodes))

-- where the new key is found too, all is as before
searchable_with : (old hs : Tree) (key : Key) (last : ℕ) → length old.nodes < NONE → IsSearchable old → Hung old hs (length old.nodes) → IsFound (more hs key) key (length old.nodes) → IsNew (more hs key) key (length old.nodes) last → IsWhole key → IsSearchable (more hs key)
searchable_with old hs key last small s h there fresh six =
    let new : Tree = more hs key in
    let g : Grown old new = grown old hs key h in
    let size : length new.nodes ≡ length old.nodes + 1 = g.len in
    let end : node_at new (length old.nodes) ≡ leaf key = end_is old hs key h.len in
    let down : IsDownward new = downward_with old hs key small s.downward h in
    record {
      some = (let some : 0 < length old.heads = s.some in let same : length hs.heads ≡ length old.heads = h.heads_len in omega arith);
      downward = down;
      found = λ k within.
          ⊎_elim
          (λ (l : k < length old.nodes). found_more old new k (omega arith) s g l)
          (λ (l : length old.nodes ≤ k).
          let e : k ≡ length old.nodes = omega arith in
          subst (λ (j : ℕ). IsFound new (node_at new j).key j) (sym e) (subst (λ (n : Node). IsFound new n.key (length old.nodes)) (sym end) there))
          (cases_lt k (length old.nodes));
      level = λ p q d e within same.
          ⊎_elim
          (λ (l : reached new p d < length old.nodes).
          let a : reached old p d ≡ reached new p d = was old new p d (omega arith) down g l in
          let b : reached old q e ≡ reached new q e = was old new q e (omega arith) down g (omega arith) in
          s.level p q d e (omega arith) (a ∙ (same ∙ sym b)))
          (λ (l : length old.nodes ≤ reached new p d).
          let a : reached new p d ≡ length old.nodes = omega arith in
          fresh.depth p d a ∙ sym (fresh.depth q e (sym same ∙ a)))
          (cases_lt (reached new p d) (length old.nodes));
      along = λ q d i within before.
          ⊎_elim
          (λ (l : reached new q d < length old.nodes).
          let a : reached old q d ≡ reached new q d = was old new q d (omega arith) down g l in
          ap (λ (x : Key). side x i) (g.keys (reached new q d) l) ∙ (ap (λ (j : ℕ). side (node_at old j).key i) (sym a) ∙ s.along q d i (omega arith) before))
          (λ (l : length old.nodes ≤ reached new q d).
          let a : reached new q d ≡ length old.nodes = omega arith in
          ap (λ (j : ℕ). side (node_at new j).key i) a ∙ (ap (λ (n : Node). side n.key i) end ∙ fresh.sides q d i a before))
          (cases_lt (reached new q d) (length old.nodes));
      whole = λ k within.
          ⊎_elim
          (λ (l : k < length old.nodes). subst IsWhole (sym (g.keys k l)) (s.whole k l))
          (λ (l : length old.nodes ≤ k).
          let e : k ≡ length old.nodes = omega arith in
          subst (λ (j : ℕ). IsWhole (node_at new j).key) (sym e) (subst (λ (n : Node). IsWhole n.key) (sym end) six))
          (cases_lt k (length old.nodes));
    }

-- a node that nothing leads to
new_alone : (old : Tree) (key : Key) → length old.nodes < NONE → IsDownward old → (q : Key) (d : ℕ) → reached (more old key) q d ≡ length old.nodes → ⊥
new_alone old key small s q zero is =
    let h : ℕ = head (length old.heads) q in
    let first : head_at old h ≡ length old.nodes = sym (reached-zero (more old key) q) ∙ is in
    let below : head_at old h < length old.nodes = s.first h (λ e. omega arith) in
    omega arith
new_alone old key small s q (suc d) is =
    let new : Tree = more old key in
    let h : Hung old old (length old.nodes) = hung_same old (length old.nodes) in
    let down : IsDownward new = downward_with old old key small s h in
    let g : Grown old new = grown old old key h in
    let b : Bool = side q d in
    let r : ℕ = reached new q d in
    let n : suc d ≡ d + 1 = omega arith in
    let is1 : reached new q (d + 1) ≡ length old.nodes = ap (reached new q) (sym n) ∙ is in
    let inner : r < length old.nodes = before_it old new q d g.len small down is1 in
    let next : link b (node_at old r) ≡ length old.nodes = ap (link b) (sym (old_node old key r inner)) ∙ (sym (reached-suc new q d) ∙ is1) in
    let below : link b (node_at old r) < length old.nodes = s.inside r b inner (λ e. omega arith) in
    omega arith

-- what comes to a node that a head was let lead to comes to it at once
new_first : (old : Tree) (key : Key) (at : ℕ) → at < length old.heads → head_at old at ≡ NONE → length old.nodes < NONE → IsDownward old → (q : Key) (d : ℕ) → reached (more (headed old at (length old.nodes)) key) q d ≡ length old.nodes → d ≡ 0
new_first old key at within none small s q zero is = refl
new_first old key at within none small s q (suc d) is =
    let hs : Tree = headed old at (length old.nodes) in
    let new : Tree = more hs key in
    let h : Hung old hs (length old.nodes) = hung_head old at (length old.nodes) within none in
    let down : IsDownward new = downward_with old hs key small s h in
    let g : Grown old new = grown old hs key h in
    let b : Bool = side q d in
    let r : ℕ = reached new q d in
    let n : suc d ≡ d + 1 = omega arith in
    let is1 : reached new q (d + 1) ≡ length old.nodes = ap (reached new q) (sym n) ∙ is in
    let inner : r < length old.nodes = before_it old new q d g.len small down is1 in
    let next : link b (node_at old r) ≡ length old.nodes = ap (link b) (sym (old_node hs key r inner)) ∙ (sym (reached-suc new q d) ∙ is1) in
    let below : link b (node_at old r) < length old.nodes = s.inside r b inner (λ e. omega arith) in
    absurd (omega arith)

-- what comes to the new node comes to it by the one that leads to it
new_by : (old : Tree) (key : Key) (at : ℕ) (one : Bool) (depth : ℕ) → length old.nodes < NONE → IsSearchable old → IsAt old key at depth → one ≡ side key depth → link one (node_at old at) ≡ NONE → (q : Key) (d : ℕ) → reached (more (turned old at one (length old.nodes)) key) q (d + 1) ≡ length old.nodes → (d ≡ depth) × (reached old q d ≡ reached old key depth) × (side q d ≡ one)
new_by old key at one depth small s here one_is none q d is =
    let hs : Tree = turned old at one (length old.nodes) in
    let new : Tree = more hs key in
    let h : Hung old hs (length old.nodes) = hung_there old at one (length old.nodes) here.within none in
    let down : IsDownward new = downward_with old hs key small s.downward h in
    let g : Grown old new = grown old hs key h in
    let size : length new.nodes ≡ length old.nodes + 1 = g.len in
    let len : length hs.nodes ≡ length old.nodes = h.len in
    let b : Bool = side q d in
    let r : ℕ = reached new q d in
    let inner : r < length old.nodes = before_it old new q d size small down is in
    let same : reached old q d ≡ r = was old new q d (omega arith) down g inner in
    let next : link b (node_at hs r) ≡ length old.nodes = ap (link b) (sym (old_node hs key r (omega arith))) ∙ (sym (reached-suc new q d) ∙ is) in
    let there : (r ≡ at) × (b ≡ one) =
    ⊎_elim
    (λ (e : link b (node_at hs r) ≡ link b (node_at old r)).
    let below : link b (node_at old r) < length old.nodes = s.downward.inside r b inner (λ n. omega arith) in
    absurd (omega arith))
    (λ (e : (r ≡ at) × (b ≡ one)). e)
    (turned_links old at one (length old.nodes) r b here.within) in
    let meets : reached old q d ≡ reached old key depth = same ∙ (there.0 ∙ here.is) in
    (s.level q key d depth (omega arith) meets, meets, there.1)

new_there_depth : (old : Tree) (key : Key) (at : ℕ) (one : Bool) (depth : ℕ) → length old.nodes < NONE → IsSearchable old → IsAt old key at depth → one ≡ side key depth → link one (node_at old at) ≡ NONE → (q : Key) (d : ℕ) → reached (more (turned old at one (length old.nodes)) key) q d ≡ length old.nodes → d ≡ depth + 1
new_there_depth old key at one depth small s here one_is none q zero is =
    let h : ℕ = head (length old.heads) q in
    let first : head_at old h ≡ length old.nodes = sym (reached-zero (more (turned old at one (length old.nodes)) key) q) ∙ is in
    let below : head_at old h < length old.nodes = s.downward.first h (λ e. omega arith) in
    absurd (omega arith)
new_there_depth old key at one depth small s here one_is none q (suc d) is =
    let n : suc d ≡ d + 1 = omega arith in
    let by = new_by old key at one depth small s here one_is none q d (ap (reached (more (turned old at one (length old.nodes)) key) q) (sym n) ∙ is) in
    let e : d ≡ depth = by.0 in
    omega arith

new_there_sides : (old : Tree) (key : Key) (at : ℕ) (one : Bool) (depth : ℕ) → length old.nodes < NONE → IsSearchable old → IsAt old key at depth → one ≡ side key depth → link one (node_at old at) ≡ NONE → (q : Key) (d i : ℕ) → reached (more (turned old at one (length old.nodes)) key) q d ≡ length old.nodes → i < d → side key i ≡ side q i
new_there_sides old key at one depth small s here one_is none q zero i is before = absurd (omega arith)
new_there_sides old key at one depth small s here one_is none q (suc d) i is before =
    let n : suc d ≡ d + 1 = omega arith in
    let by = new_by old key at one depth small s here one_is none q d (ap (reached (more (turned old at one (length old.nodes)) key) q) (sym n) ∙ is) in
    let e : d ≡ depth = by.0 in
    let meets : reached old q d ≡ reached old key depth = by.1 in
    let within : at < length old.nodes = here.within in
    let at_is : at ≡ reached old key depth = here.is in
    ⊎_elim
    (λ (l : i < depth).
    sym (s.along key depth i (omega arith) l)
    ∙ (ap (λ (j : ℕ). side (node_at old j).key i) (sym meets) ∙ s.along q d i (omega arith) (omega arith)))
    (λ (l : depth ≤ i).
    let same : i ≡ depth = omega arith in
    let last : i ≡ d = omega arith in
    ap (side key) same ∙ (sym one_is ∙ (sym by.2 ∙ ap (side q) (sym last))))
    (cases_lt i depth)

new_there : (old : Tree) (key : Key) (at : ℕ) (one : Bool) (depth : ℕ) → length old.nodes < NONE → IsSearchable old → IsAt old key at depth → one ≡ side key depth → link one (node_at old at) ≡ NONE → IsNew (more (turned old at one (length old.nodes)) key) key (length old.nodes) (depth + 1)
new_there old key at one depth small s here one_is none =
    record {
      depth = new_there_depth old key at one depth small s here one_is none;
      sides = new_there_sides old key at one depth small s here one_is none;
    }

head_within : (heads : ℕ) (key : Key) → 0 < heads → head heads key < heads
unfolding head
head_within heads key some = omega arith

-- the trees after the place where a search ended was let lead to a node
abbrev hung : Tree → Place → ℕ → Tree
hung t place to = tree (heads_with t.heads place to) (nodes_with t.nodes place to)

pub searchable_more : (old : Tree) (key : Key) (place : Place) → length old.nodes < NONE → IsSearchable old → IsWhole key → IsEnd old key place → IsSearchable (more (hung old place (length old.nodes)) key)
searchable_more old key (Head at) small s six end =
    let at_is : at ≡ head (length old.heads) key = end.0 in
    let some : head (length old.heads) key < length old.heads = head_within (length old.heads) key s.some in
    let within : at < length old.heads = omega arith in
    let hs : Tree = headed old at (length old.nodes) in
    let h : Hung old hs (length old.nodes) = hung_head old at (length old.nodes) within end.1 in
    let first : reached (more hs key) key 0 ≡ length old.nodes =
    reached-zero (more hs key) key
    ∙ (ap (λ (n : ℕ). head_at hs (head n key)) h.heads_len
    ∙ (ap (head_at hs) (sym at_is) ∙ head_here old at (length old.nodes) within)) in
    searchable_with old hs key 0 small s h (record {
      depth = 0;
      at_most = omega arith;
      same = ap (λ (i : ℕ). (node_at (more hs key) i).key) first ∙ ap (λ (n : Node). n.key) (new_node hs key);
    }) (record {
      depth = λ q d is. new_first old key at within end.1 small s.downward q d is;
      sides = λ q d i is before. let zero_is : d ≡ 0 = new_first old key at within end.1 small s.downward q d is in absurd (omega arith);
    }) six
searchable_more old key (Taken at) small s six end =
    let h : Hung old old (length old.nodes) = hung_same old (length old.nodes) in
    let g : Grown old (more old key) = grown old old key h in
    let here : IsAt old key at end.0 = end.1 in
    let within : at < length old.nodes = here.within in
    let is : at ≡ reached old key end.0 = here.is in
    let same : reached (more old key) key end.0 ≡ reached old key end.0 = kept old (more old key) key end.0 (omega arith) s.downward g (omega arith) in
    searchable_with old old key 0 small s h (record {
      depth = end.0;
      at_most = omega arith;
      same = ap (λ (i : ℕ). (node_at (more old key) i).key) (same ∙ sym is) ∙ (g.keys at within ∙ end.2);
    }) (record {
      depth = λ q d there. absurd (new_alone old key small s.downward q d there);
      sides = λ q d i there before. absurd (new_alone old key small s.downward q d there);
    }) six
searchable_more old key (Free at one) small s six end =
    let here : IsAt old key at end.0 = end.1 in
    let within : at < length old.nodes = here.within in
    let is : at ≡ reached old key end.0 = here.is in
    let hs : Tree = turned old at one (length old.nodes) in
    let h : Hung old hs (length old.nodes) = hung_there old at one (length old.nodes) within end.4 in
    let g : Grown old (more hs key) = grown old hs key h in
    let len : length hs.nodes ≡ length old.nodes = h.len in
    let same : reached (more hs key) key end.0 ≡ reached old key end.0 = kept old (more hs key) key end.0 (omega arith) s.downward g (omega arith) in
    let read : node_at (more hs key) at ≡ linked one (node_at old at) (length old.nodes) = old_node hs key at (omega arith) ∙ turned_here old at one (length old.nodes) within in
    let next : reached (more hs key) key (end.0 + 1) ≡ length old.nodes =
    reached-suc (more hs key) key end.0
    ∙ (ap (λ (i : ℕ). link (side key end.0) (node_at (more hs key) i)) (same ∙ sym is)
    ∙ (ap (λ b. link b (node_at (more hs key) at)) (sym end.3)
    ∙ (ap (link one) read ∙ linked_same one (node_at old at) (length old.nodes)))) in
    searchable_with old hs key (end.0 + 1) small s h (record {
      depth = end.0 + 1;
      at_most = omega arith;
      same = ap (λ (i : ℕ). (node_at (more hs key) i).key) (next ∙ sym len) ∙ ap (λ (n : Node). n.key) (new_node hs key);
    }) (new_there old key at one end.0 small s here end.3 end.4) six

pub keys_more : (old : Tree) (key : Key) (place : Place) → IsEnd old key place → keys_of (nodes_with old.nodes place (length old.nodes) ++ leaf key ∷ []) ≡ keys_of old.nodes ++ key ∷ []
keys_more old key (Head h) end = map-append (λ (n : Node). n.key) old.nodes (leaf key ∷ [])
keys_more old key (Taken at) end = map-append (λ (n : Node). n.key) old.nodes (leaf key ∷ [])
keys_more old key (Free at one) end =
    let node : Node = linked one (node_at old at) (length old.nodes) in
    map-append (λ (n : Node). n.key) (set old.nodes at node) (leaf key ∷ [])
    ∙ ap (λ ks. ks ++ key ∷ []) (map-set_same (λ (n : Node). n.key) old.nodes at node (leaf no_key) (linked_keys one (node_at old at) (length old.nodes)))

pub within_at : (t : Tree) (key : Key) (place : Place) → IsSearchable t → IsEnd t key place → IsWithin t.heads t.nodes place
within_at t key (Head h) s end =
    let is : h ≡ head (length t.heads) key = end.0 in
    let some : head (length t.heads) key < length t.heads = head_within (length t.heads) key s.some in
    omega arith
within_at t key (Taken at) s end = tt
within_at t key (Free at one) s end = end.1.within

-- heads that lead nowhere
pub nowhere : (n h : ℕ) → head_at (tree (replicate n NONE) []) h ≡ NONE
nowhere n h =
    ⊎_elim
    (λ (l : h < n). get_or-replicate n h NONE NONE l)
    (λ (l : n ≤ h). let len = length-replicate n NONE in get_or_past (replicate n NONE) h NONE (omega arith))
    (cases_lt h n)

pub empty_searchable : (heads : List ℕ) (n : ℕ) → 0 < n → heads ≡ replicate n NONE → IsSearchable (tree heads [])
empty_searchable heads n some is =
    subst (λ (hs : List ℕ). IsSearchable (tree hs [])) (sym is) (record {
      some = (let len = length-replicate n NONE in omega arith);
      downward = record {
        first = λ h ne. absurd (ne (nowhere n h));
        behind = λ i b within. absurd (omega arith);
        inside = λ i b within _. absurd (omega arith);
      };
      found = λ k within. absurd (omega arith);
      level = λ p q d e within _. absurd (omega arith);
      along = λ q d i within _. absurd (omega arith);
      whole = λ k within. absurd (omega arith);
    })
