-- An amount of an entry changes.
use Rattle.std.proofs.Common.{◌≡◌, ◌≢◌, ℕ, ◌<◌, List, Option, None, slice_index, cond, length, set, nat_eq, refl, ap, sym, ◌∙◌, subst, ⊎_elim, arith, get_or-set_same, get_or-set_other}
use Rattle.std.proofs.lemmas.Bool.{cases_eq}
use Rattle.std.proofs.lemmas.List.{length-set}
use Rattle.least_tree.specs.Amounts.{amount_at, least}
use Rattle.amount_forest.specs.declared.node.Entry.{Entry}
use Rattle.amount_forest.specs.declared.node.Link.{Link}
use Rattle.amount_forest.specs.Lists.{amounts_of, numbers_of, rank}
use Rattle.amount_forest.specs.Nodes.{entry_at, list_of, amount_of, place_of, start_of, prev_of, jump_of, second_of, LeadsTo, IsLinked, IsMended, IsEnd, IsLast}
use Rattle.amount_forest.proofs.ListLemmas.{rank_set, amounts_set, amounts_set_other, parts_set_other, part_here, numbers_set}
use Rattle.amount_forest.proofs.NodeLemmas.{amount_is}

abbrev pub no_entry : Entry
no_entry = record { list = 0; number = 0; amount = None }

lists_set : (es : List Entry) (at i : ℕ) (e : Entry) → at < length es → e.list ≡ list_of es at → list_of (set es at e) i ≡ list_of es i
lists_set es at i e within same =
    ⊎_elim
    (λ (h : i ≡ at). ap (list_of (set es at e)) h ∙ (ap (λ (x : Entry). x.list) (get_or-set_same es at e no_entry within) ∙ (same ∙ ap (list_of es) (sym h))))
    (λ (ne : i ≢ at). ap (λ (x : Entry). x.list) (get_or-set_other es at i e no_entry ne))
    (cases_eq i at)

leads_set : (es : List Entry) (ks : List Link) (at i to place : ℕ) (e : Entry) → at < length es → e.list ≡ list_of es at → LeadsTo es ks i to place → LeadsTo (set es at e) ks i to place
leads_set es ks at i to place e within same l =
    record {
      earlier = l.earlier;
      same_list = lists_set es at to e within same ∙ (l.same_list ∙ sym (lists_set es at i e within same));
      next = l.next;
    }

pub linked_set : (es : List Entry) (ks : List Link) (at : ℕ) (e : Entry) → IsLinked es ks → at < length es → e.list ≡ list_of es at → IsLinked (set es at e) ks
linked_set es ks at e s within same =
    let len : length (set es at e) ≡ length es = length-set es at e in
    let list : (i : ℕ) → list_of (set es at e) i ≡ list_of es i = λ i. lists_set es at i e within same in
    record {
      size = s.size ∙ sym len;
      place = λ i inner.
          s.place i (omega arith) ∙ (ap (λ (l : ℕ). rank l i es) (sym (list i)) ∙ sym (rank_set (list_of (set es at e) i) i at es e within same));
      start = λ i inner. s.start i (omega arith);
      prev = λ i inner some. leads_set es ks at i (prev_of ks i) (place_of ks i) e within same (s.prev i (omega arith) some);
      jump = λ i inner some. leads_set es ks at i (jump_of ks i) (start_of ks i) e within same (s.jump i (omega arith) some);
      two = λ i inner h. s.two i (omega arith) h;
      nested = λ i k inner other alike low high. s.nested i k (omega arith) (omega arith) (sym (list i) ∙ (alike ∙ list k)) low high;
      up = λ i inner some. s.up i (omega arith) some;
      up_within = λ i inner some. (let later = s.up_within i (omega arith) some in omega arith);
    }

pub mended_set : (es : List Entry) (ks : List Link) (ms : List (Option ℕ)) (at i : ℕ) (e : Entry) → i ≢ at → IsMended es ks ms i → IsMended (set es at e) ks ms i
mended_set es ks ms at i e ne mended =
    mended
    ∙ ap (λ (a : Option ℕ). cond (nat_eq (start_of ks i) (place_of ks i)) a (least a (least (amount_at ms (prev_of ks i)) (amount_at ms (second_of ks i)))))
    (sym (ap (λ (x : Entry). x.amount) (get_or-set_other es at i e no_entry ne)))

-- the list of the entry, and any other
pub amounts_here : (es : List Entry) (ks : List Link) (at list place : ℕ) (e : Entry) → IsLinked es ks → at < length es → list_of es at ≡ list → place_of ks at ≡ place → e.list ≡ list → amounts_of list (set es at e) ≡ set (amounts_of list es) place e.amount
amounts_here es ks at list place e s within is there same =
    amounts_set list at es e within is same
    ∙ ap (λ (n : ℕ). set (amounts_of list es) n e.amount) (ap (λ (l : ℕ). rank l at es) (sym is) ∙ (sym (s.place at within) ∙ there))

pub amounts_other : (es : List Entry) (at list l : ℕ) (e : Entry) → at < length es → list_of es at ≡ list → e.list ≡ list → l ≢ list → amounts_of l (set es at e) ≡ amounts_of l es
amounts_other es at list l e within is same ne = amounts_set_other l at es e within (λ h. ne (sym h ∙ is)) (λ h. ne (sym h ∙ same))

same_count : (es : List Entry) (ks : List Link) (at list l : ℕ) (e : Entry) → IsLinked es ks → at < length es → list_of es at ≡ list → e.list ≡ list → length (amounts_of l (set es at e)) ≡ length (amounts_of l es)
same_count es ks at list l e s within is same =
    ⊎_elim
    (λ (h : l ≡ list).
    subst (λ (m : ℕ). length (amounts_of m (set es at e)) ≡ length (amounts_of m es)) (sym h)
    (ap length (amounts_here es ks at list (place_of ks at) e s within is refl same) ∙ length-set (amounts_of list es) (place_of ks at) e.amount))
    (λ (ne : l ≢ list). ap length (amounts_other es at list l e within is same ne))
    (cases_eq l list)

pub last_set : (es : List Entry) (ks : List Link) (at list l last : ℕ) (e : Entry) → IsLinked es ks → at < length es → list_of es at ≡ list → e.list ≡ list → IsLast es ks l last → IsLast (set es at e) ks l last
last_set es ks at list l last e s within is same u =
    let count : length (amounts_of l (set es at e)) ≡ length (amounts_of l es) = same_count es ks at list l e s within is same in
    record {
      none = λ h. count ∙ u.none h;
      some = λ h.
          let end : IsEnd es ks l last = u.some h in
          let inner : last < length es = end.within in
          let len : length (set es at e) ≡ length es = length-set es at e in
          record {
            within = omega arith;
            of_list = lists_set es at last e within (same ∙ sym is) ∙ end.of_list;
            last = end.last ∙ sym count;
          };
    }

-- the amount at a place of a list is that of its node
pub amount_found : (es : List Entry) (ks : List Link) (i list place : ℕ) → IsLinked es ks → i < length es → list_of es i ≡ list → place_of ks i ≡ place → amount_of es i ≡ amount_at (amounts_of list es) place
amount_found es ks i list place s within is there =
    sym (amount_is es ks i s within) ∙ (ap (λ (l : ℕ). amount_at (amounts_of l es) (place_of ks i)) is ∙ ap (amount_at (amounts_of list es)) there)

-- the number at a place of a list is that of its node
pub number_found : (es : List Entry) (ks : List Link) (i list place : ℕ) → IsLinked es ks → i < length es → list_of es i ≡ list → place_of ks i ≡ place → (entry_at es i).number ≡ slice_index (numbers_of list es) place
number_found es ks i list place s within is there =
    sym (part_here (λ e. e.number) list i es 0 within is)
    ∙ ap (slice_index (numbers_of list es)) (ap (λ (l : ℕ). rank l i es) (sym is) ∙ (sym (s.place i within) ∙ there))

-- the numbers stay where the entry has its number
pub numbers_kept : (es : List Entry) (at list l : ℕ) (e : Entry) → at < length es → list_of es at ≡ list → e.list ≡ list → e.number ≡ (entry_at es at).number → numbers_of l (set es at e) ≡ numbers_of l es
numbers_kept es at list l e within is same number =
    ⊎_elim
    (λ (h : l ≡ list). subst (λ (m : ℕ). numbers_of m (set es at e) ≡ numbers_of m es) (sym h) (numbers_set list at es e within is same number))
    (λ (ne : l ≢ list). parts_set_other (λ e. e.number) l at es e within (λ h. ne (sym h ∙ is)) (λ h. ne (sym h ∙ same)))
    (cases_eq l list)
