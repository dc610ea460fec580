-- Nodes stay linked when one more comes.
use Rattle.std.proofs.Common.{◌≡◌, ℕ, ◌+◌, ◌<◌, ◌≤◌, List, [], ◌∷◌, ◌++◌, Option, None, length, refl, ap, sym, ◌∙◌, subst, ◌⊎◌, inl, inr, ⊎_elim, arith, length-append}
use Rattle.std.proofs.Math.ListN.{get_or-append}
use Rattle.std.proofs.Math.Seq.{get_or-append_seam}
use Rattle.std.proofs.lemmas.Bool.{cases_lt}
use Rattle.least_tree.specs.Amounts.{amount_at, least}
use Rattle.amount_forest.specs.declared.node.Entry.{Entry}
use Rattle.amount_forest.specs.declared.node.Link.{Link}
use Rattle.amount_forest.specs.declared.node.TheConstants.{NONE}
use Rattle.amount_forest.specs.Lists.{amounts_of, rank}
use Rattle.amount_forest.specs.Nodes.{entry_at, link_at, list_of, amount_of, place_of, start_of, prev_of, jump_of, up_of, second_of, LeadsTo, HasTwo, IsLinked, IsPool, IsMended, IsKept, IsFree, IsNew, Precedes}
use Rattle.amount_forest.proofs.ListLemmas.{rank_front, rank_full}
use Rattle.amount_forest.proofs.NodeLemmas.{place_within, first_leads, second_leads, inner_least, leaf_least}

abbrev no_entry : Entry
no_entry = record { list = 0; number = 0; amount = None }

abbrev no_link : Link
no_link = record { place = 0; start = 0; prev = 0; jump = 0; up = 0 }

abbrev es_with : List Entry → Entry → List Entry
es_with es e = es ++ e ∷ []

abbrev ks_with : List Link → Link → List Link
ks_with ks k = ks ++ k ∷ []

pub old_entry : (es : List Entry) (e : Entry) (i : ℕ) → i < length es → entry_at (es_with es e) i ≡ entry_at es i
old_entry es e i within = get_or-append es (e ∷ []) no_entry i within

pub new_entry : (es : List Entry) (e : Entry) → entry_at (es_with es e) (length es) ≡ e
new_entry es e = get_or-append_seam es e [] no_entry

old_link : (ks : List Link) (k : Link) (i : ℕ) → i < length ks → link_at (ks_with ks k) i ≡ link_at ks i
old_link ks k i within = get_or-append ks (k ∷ []) no_link i within

new_link : (ks : List Link) (k : Link) (n : ℕ) → length ks ≡ n → link_at (ks_with ks k) n ≡ k
new_link ks k n e = subst (λ (m : ℕ). link_at (ks_with ks k) m ≡ k) e (get_or-append_seam ks k [] no_link)

-- what nodes have after one more came
record Grown (es : List Entry) (ks new : List Link) (e : Entry) (k : Link) : Type 0 where
  lists : (i : ℕ) → i < length es → list_of (es_with es e) i ≡ list_of es i
  kept : (i : ℕ) → i < length es → IsKept (link_at ks i) (link_at new i)
  ups : (i : ℕ) → i < length es → (up_of new i ≡ up_of ks i) ⊎ ((up_of new i ≡ length es) × IsFree ks i)
  list : list_of (es_with es e) (length es) ≡ e.list
  link : link_at new (length es) ≡ k

grown : (es : List Entry) (ks hs : List Link) (e : Entry) (k : Link) → length ks ≡ length es → IsNew es ks hs e.list k → Grown es ks (ks_with hs k) e k
grown es ks hs e k size n =
    let len : length hs ≡ length ks = n.len in
    record {
      lists = λ i within. ap (λ (x : Entry). x.list) (old_entry es e i within);
      kept = λ i within. subst (λ (x : Link). IsKept (link_at ks i) x) (sym (old_link hs k i (omega arith))) (n.kept i);
      ups = λ i within.
          let is : up_of (ks_with hs k) i ≡ up_of hs i = ap (λ (x : Link). x.up) (old_link hs k i (omega arith)) in
          ⊎_elim
          (λ (e : up_of hs i ≡ up_of ks i). inl (is ∙ e))
          (λ (e : (up_of hs i ≡ length ks) × IsFree ks i). inr (is ∙ (e.0 ∙ size), e.1))
          (n.ups i);
      list = ap (λ (x : Entry). x.list) (new_entry es e);
      link = new_link hs k (length es) (len ∙ size);
    }

-- one of the two nodes of an old node says so as before
same_up : (es : List Entry) (ks new : List Link) (e : Entry) (k : Link) (i c : ℕ) → Grown es ks new e k → c < length es → (IsFree ks c → ⊥) → up_of new c ≡ up_of ks c
same_up es ks new e k i c g within taken =
    ⊎_elim
    (λ (same : up_of new c ≡ up_of ks c). same)
    (λ (other : (up_of new c ≡ length es) × IsFree ks c). absurd (taken other.1))
    (g.ups c within)

old_leads : (es : List Entry) (ks new : List Link) (e : Entry) (k : Link) (i to place : ℕ) → Grown es ks new e k → i < length es → LeadsTo es ks i to place → LeadsTo (es_with es e) new i to place
old_leads es ks new e k i to place g within l =
    let earlier : to < i = l.earlier in
    record {
      earlier = earlier;
      same_list = g.lists to (omega arith) ∙ (l.same_list ∙ sym (g.lists i within));
      next = ap (λ (n : ℕ). n + 1) (g.kept to (omega arith)).place ∙ l.next;
    }

new_leads : (es : List Entry) (ks new : List Link) (e : Entry) (k : Link) (to place : ℕ) → Grown es ks new e k → Precedes es ks e.list to place → LeadsTo (es_with es e) new (length es) to place
new_leads es ks new e k to place g p =
    record {
      earlier = p.within;
      same_list = g.lists to p.within ∙ (p.of_list ∙ sym g.list);
      next = ap (λ (n : ℕ). n + 1) (g.kept to p.within).place ∙ p.next;
    }

old_two : (es : List Entry) (ks new : List Link) (e : Entry) (k : Link) (i : ℕ) → length ks ≡ length es → IsLinked es ks → Grown es ks new e k → i < length es → start_of ks i < place_of ks i → HasTwo new i
old_two es ks new e k i size s g within inner =
    let two : HasTwo ks i = s.two i within inner in
    let first = first_leads es ks i s within inner in
    let second = second_leads es ks i s within inner in
    let first_earlier : prev_of ks i < i = first.earlier in
    let second_earlier : second_of ks i < prev_of ks i = second.earlier in
    let kept : IsKept (link_at ks i) (link_at new i) = g.kept i within in
    let kept1 : IsKept (link_at ks (prev_of ks i)) (link_at new (prev_of ks i)) = g.kept (prev_of ks i) (omega arith) in
    let kept2 : IsKept (link_at ks (second_of ks i)) (link_at new (second_of ks i)) = g.kept (second_of ks i) (omega arith) in
    let to1 : prev_of new i ≡ prev_of ks i = kept.prev in
    let to2 : second_of new i ≡ second_of ks i = ap (jump_of new) to1 ∙ kept1.jump in
    let up1 : up_of new (prev_of ks i) ≡ up_of ks (prev_of ks i) = same_up es ks new e k i (prev_of ks i) g (omega arith) (λ free. (free i (omega arith) inner).0 refl) in
    let up2 : up_of new (second_of ks i) ≡ up_of ks (second_of ks i) = same_up es ks new e k i (second_of ks i) g (omega arith) (λ free. (free i (omega arith) inner).1 refl) in
    record {
      first = subst (λ (n : ℕ). 0 < n) (sym (ap (start_of new) to1 ∙ kept1.start)) two.first;
      second = ap (start_of new) to2 ∙ (kept2.start ∙ (two.second ∙ sym kept.start));
      first_up = ap (up_of new) to1 ∙ (up1 ∙ two.first_up);
      second_up = ap (up_of new) to2 ∙ (up2 ∙ two.second_up);
    }

new_two : (es : List Entry) (ks hs : List Link) (e : Entry) (k : Link) → length ks ≡ length es → IsLinked es ks → IsNew es ks hs e.list k → k.start < k.place → HasTwo (ks_with hs k) (length es)
new_two es ks hs e k size s n inner =
    let new : List Link = ks_with hs k in
    let g : Grown es ks new e k = grown es ks hs e k size n in
    let len : length hs ≡ length ks = n.len in
    let some : 0 < k.place = omega arith in
    let prev : Precedes es ks e.list k.prev k.place = n.prev some in
    let within : k.prev < length es = prev.within in
    let first : 0 < start_of ks k.prev = n.first inner in
    let leads : LeadsTo es ks k.prev (jump_of ks k.prev) (start_of ks k.prev) = s.jump k.prev within first in
    let earlier : jump_of ks k.prev < k.prev = leads.earlier in
    let kept1 : IsKept (link_at ks k.prev) (link_at new k.prev) = g.kept k.prev within in
    let kept2 : IsKept (link_at ks (jump_of ks k.prev)) (link_at new (jump_of ks k.prev)) = g.kept (jump_of ks k.prev) (omega arith) in
    let to1 : prev_of new (length es) ≡ k.prev = ap (λ (x : Link). x.prev) g.link in
    let to2 : second_of new (length es) ≡ jump_of ks k.prev = ap (jump_of new) to1 ∙ kept1.jump in
    let start : start_of new (length es) ≡ k.start = ap (λ (x : Link). x.start) g.link in
    record {
      first = subst (λ (n : ℕ). 0 < n) (sym (ap (start_of new) to1 ∙ kept1.start)) first;
      second = ap (start_of new) to2 ∙ (kept2.start ∙ (n.second inner ∙ sym start));
      first_up = ap (up_of new) to1 ∙ (ap (λ (x : Link). x.up) (old_link hs k k.prev (omega arith)) ∙ (n.first_up inner ∙ size));
      second_up = ap (up_of new) to2 ∙ (ap (λ (x : Link). x.up) (old_link hs k (jump_of ks k.prev) (omega arith)) ∙ (n.second_up inner ∙ size));
    }

-- a number below one more is below, or it is the last
below_or : (n i m : ℕ) → m ≡ n + 1 → i < m → (i < n) ⊎ (i ≡ n)
below_or n i m e within = ⊎_elim (λ (h : i < n). inl h) (λ (h : n ≤ i). inr (omega arith)) (cases_lt i n)

pub linked_more : (es : List Entry) (ks hs : List Link) (e : Entry) (k : Link) → IsLinked es ks → IsNew es ks hs e.list k → IsLinked (es_with es e) (ks_with hs k)
linked_more es ks hs e k s n =
    let size : length ks ≡ length es = s.size in
    let fs : List Entry = es_with es e in
    let new : List Link = ks_with hs k in
    let g : Grown es ks new e k = grown es ks hs e k size n in
    let len : length hs ≡ length ks = n.len in
    let count : length fs ≡ length es + 1 = length-append es (e ∷ []) in
    let place : place_of new (length es) ≡ k.place = ap (λ (x : Link). x.place) g.link in
    let start : start_of new (length es) ≡ k.start = ap (λ (x : Link). x.start) g.link in
    let prev : prev_of new (length es) ≡ k.prev = ap (λ (x : Link). x.prev) g.link in
    let jump : jump_of new (length es) ≡ k.jump = ap (λ (x : Link). x.jump) g.link in
    let up : up_of new (length es) ≡ NONE = ap (λ (x : Link). x.up) g.link ∙ n.top in
    record {
      size = length-append hs (k ∷ []) ∙ (ap (λ m. m + 1) (len ∙ size) ∙ sym count);
      place = λ i within.
          ⊎_elim
          (λ (h : i < length es).
          (g.kept i h).place ∙ (s.place i h ∙ (sym (rank_front (list_of es i) i es (e ∷ []) (omega arith)) ∙ ap (λ (l : ℕ). rank l i fs) (sym (g.lists i h)))))
          (λ (h : i ≡ length es).
          subst (λ (j : ℕ). place_of new j ≡ rank (list_of fs j) j fs) (sym h)
          (place ∙ (n.place ∙ (sym (rank_full e.list es) ∙ (sym (rank_front e.list (length es) es (e ∷ []) (omega arith)) ∙ ap (λ (l : ℕ). rank l (length es) fs) (sym g.list))))))
          (below_or (length es) i (length fs) count within);
      start = λ i within.
          ⊎_elim
          (λ (h : i < length es). let a = (g.kept i h).place in let b = (g.kept i h).start in let c = s.start i h in omega arith)
          (λ (h : i ≡ length es). subst (λ (j : ℕ). start_of new j ≤ place_of new j) (sym h) (let c = n.start in omega arith))
          (below_or (length es) i (length fs) count within);
      prev = λ i within some.
          ⊎_elim
          (λ (h : i < length es).
          let kept : IsKept (link_at ks i) (link_at new i) = g.kept i h in
          let same : place_of new i ≡ place_of ks i = kept.place in
          subst (λ (p : ℕ). LeadsTo fs new i p (place_of new i)) (sym kept.prev) (subst (λ (p : ℕ). LeadsTo fs new i (prev_of ks i) p) (sym same) (old_leads es ks new e k i (prev_of ks i) (place_of ks i) g h (s.prev i h (omega arith)))))
          (λ (h : i ≡ length es).
          let same : place_of new i ≡ k.place = ap (place_of new) h ∙ place in
          subst (λ (j : ℕ). LeadsTo fs new j (prev_of new j) (place_of new j)) (sym h)
          (subst (λ (p : ℕ). LeadsTo fs new (length es) p (place_of new (length es))) (sym prev) (subst (λ (p : ℕ). LeadsTo fs new (length es) k.prev p) (sym place) (new_leads es ks new e k k.prev k.place g (n.prev (omega arith))))))
          (below_or (length es) i (length fs) count within);
      jump = λ i within some.
          ⊎_elim
          (λ (h : i < length es).
          let kept : IsKept (link_at ks i) (link_at new i) = g.kept i h in
          let same : start_of new i ≡ start_of ks i = kept.start in
          subst (λ (p : ℕ). LeadsTo fs new i p (start_of new i)) (sym kept.jump) (subst (λ (p : ℕ). LeadsTo fs new i (jump_of ks i) p) (sym same) (old_leads es ks new e k i (jump_of ks i) (start_of ks i) g h (s.jump i h (omega arith)))))
          (λ (h : i ≡ length es).
          let same : start_of new i ≡ k.start = ap (start_of new) h ∙ start in
          subst (λ (j : ℕ). LeadsTo fs new j (jump_of new j) (start_of new j)) (sym h)
          (subst (λ (p : ℕ). LeadsTo fs new (length es) p (start_of new (length es))) (sym jump) (subst (λ (p : ℕ). LeadsTo fs new (length es) k.jump p) (sym start) (new_leads es ks new e k k.jump k.start g (n.jump (omega arith))))))
          (below_or (length es) i (length fs) count within);
      two = λ i within inner.
          ⊎_elim
          (λ (h : i < length es).
          let a : place_of new i ≡ place_of ks i = (g.kept i h).place in
          let b : start_of new i ≡ start_of ks i = (g.kept i h).start in
          old_two es ks new e k i size s g h (omega arith))
          (λ (h : i ≡ length es).
          let a : place_of new i ≡ k.place = ap (place_of new) h ∙ place in
          let b : start_of new i ≡ k.start = ap (start_of new) h ∙ start in
          subst (λ (j : ℕ). HasTwo new j) (sym h) (new_two es ks hs e k size s n (omega arith)))
          (below_or (length es) i (length fs) count within);
      nested = λ i j within other same low high.
          ⊎_elim
          (λ (h : i < length es).
          let a : place_of new i ≡ place_of ks i = (g.kept i h).place in
          let b : start_of new i ≡ start_of ks i = (g.kept i h).start in
          ⊎_elim
          (λ (l : j < length es).
          let c : place_of new j ≡ place_of ks j = (g.kept j l).place in
          let d : start_of new j ≡ start_of ks j = (g.kept j l).start in
          let order : start_of ks j ≤ start_of ks i = s.nested i j h l (sym (g.lists i h) ∙ (same ∙ g.lists j l)) (omega arith) (omega arith) in
          omega arith)
          (λ (l : j ≡ length es).
          let d : start_of new j ≡ k.start = ap (start_of new) l ∙ start in
          let order : k.start ≤ start_of ks i = n.nested i h (sym (g.lists i h) ∙ (same ∙ (ap (list_of fs) l ∙ g.list))) (omega arith) in
          omega arith)
          (below_or (length es) j (length fs) count other))
          (λ (h : i ≡ length es).
          let a : place_of new i ≡ k.place = ap (place_of new) h ∙ place in
          ⊎_elim
          (λ (l : j < length es).
          let c : place_of new j ≡ place_of ks j = (g.kept j l).place in
          let list : list_of es j ≡ e.list = sym (g.lists j l) ∙ (sym same ∙ (ap (list_of fs) h ∙ g.list)) in
          let below : place_of ks j < length (amounts_of (list_of es j) es) = place_within es ks j s l in
          let most : length (amounts_of (list_of es j) es) ≡ k.place = ap (λ (x : ℕ). length (amounts_of x es)) list ∙ sym n.place in
          absurd (omega arith))
          (λ (l : j ≡ length es). let e : start_of new j ≡ start_of new i = ap (start_of new) (l ∙ sym h) in omega arith)
          (below_or (length es) j (length fs) count other))
          (below_or (length es) i (length fs) count within);
      up = λ i within some.
          ⊎_elim
          (λ (h : i < length es).
          ⊎_elim
          (λ (same : up_of new i ≡ up_of ks i). let later : i < up_of ks i = s.up i h (λ e. some (same ∙ e)) in omega arith)
          (λ (other : (up_of new i ≡ length es) × IsFree ks i). let is = other.0 in omega arith)
          (g.ups i h))
          (λ (h : i ≡ length es). absurd (some (ap (up_of new) h ∙ up)))
          (below_or (length es) i (length fs) count within);
      up_within = λ i within some.
          ⊎_elim
          (λ (h : i < length es).
          ⊎_elim
          (λ (same : up_of new i ≡ up_of ks i). let later : up_of ks i < length es = s.up_within i h (λ e. some (same ∙ e)) in omega arith)
          (λ (other : (up_of new i ≡ length es) × IsFree ks i). let is = other.0 in omega arith)
          (g.ups i h))
          (λ (h : i ≡ length es). absurd (some (ap (up_of new) h ∙ up)))
          (below_or (length es) i (length fs) count within);
    }

-- an old node has the least amount that it has to have
pub mended_old : (es : List Entry) (ks hs : List Link) (ms : List (Option ℕ)) (e : Entry) (k : Link) (i : ℕ) → IsPool es ks ms → IsNew es ks hs e.list k → i < length es → IsMended (es_with es e) (ks_with hs k) (ms ++ None ∷ []) i
mended_old es ks hs ms e k i pool n within =
    let s : IsLinked es ks = pool.linked in
    let fs : List Entry = es_with es e in
    let new : List Link = ks_with hs k in
    let ns : List (Option ℕ) = ms ++ None ∷ [] in
    let size : length ms ≡ length es = pool.size in
    let g : Grown es ks new e k = grown es ks hs e k s.size n in
    let kept : IsKept (link_at ks i) (link_at new i) = g.kept i within in
    let own : amount_of fs i ≡ amount_of es i = ap (λ (x : Entry). x.amount) (old_entry es e i within) in
    let a : place_of new i ≡ place_of ks i = kept.place in
    let b : start_of new i ≡ start_of ks i = kept.start in
    let read : (j : ℕ) → j < length es → amount_at ns j ≡ amount_at ms j = λ j inner. get_or-append ms (None ∷ []) None j (omega arith) in
    read i within
    ∙ (pool.mended i within
    ∙ ⊎_elim
    (λ (h : start_of ks i < place_of ks i).
    let first = first_leads es ks i s within h in
    let second = second_leads es ks i s within h in
    let first_earlier : prev_of ks i < i = first.earlier in
    let second_earlier : second_of ks i < prev_of ks i = second.earlier in
    let to1 : prev_of new i ≡ prev_of ks i = kept.prev in
    let to2 : second_of new i ≡ second_of ks i = ap (jump_of new) to1 ∙ (g.kept (prev_of ks i) (omega arith)).jump in
    let same1 : amount_at ns (prev_of new i) ≡ amount_at ms (prev_of ks i) = ap (amount_at ns) to1 ∙ read (prev_of ks i) (omega arith) in
    let same2 : amount_at ns (second_of new i) ≡ amount_at ms (second_of ks i) = ap (amount_at ns) to2 ∙ read (second_of ks i) (omega arith) in
    inner_least es ks ms i h
    ∙ (ap (λ (x : Option ℕ). least x (least (amount_at ms (prev_of ks i)) (amount_at ms (second_of ks i)))) (sym own)
    ∙ (ap (λ (x : Option ℕ). least (amount_of fs i) (least x (amount_at ms (second_of ks i)))) (sym same1)
    ∙ (ap (λ (x : Option ℕ). least (amount_of fs i) (least (amount_at ns (prev_of new i)) x)) (sym same2)
    ∙ sym (inner_least fs new ns i (omega arith))))))
    (λ (h : place_of ks i ≤ start_of ks i).
    let start : start_of ks i ≤ place_of ks i = s.start i within in
    leaf_least es ks ms i (omega arith) ∙ (sym own ∙ sym (leaf_least fs new ns i (omega arith))))
    (cases_lt (start_of ks i) (place_of ks i)))
