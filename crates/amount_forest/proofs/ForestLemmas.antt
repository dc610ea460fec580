-- What contracts see of the nodes.
use Rattle.std.proofs.Common.{◌≡◌, ◌≢◌, ℕ, ◌+◌, ◌<◌, ◌≤◌, List, [], ◌∷◌, ◌++◌, Option, length, set, replicate, slice_index, slice_index_or, get_or, refl, ap, sym, ◌∙◌, subst, ⊎_elim, arith, length-append, get_or-set_same, get_or-set_other}
use Rattle.std.proofs.lemmas.Bool.{cases_eq}
use Rattle.amount_forest.proofs.GrowLemmas.{old_entry, new_entry}
use Rattle.amount_forest.proofs.ListLemmas.{amounts_here, amounts_elsewhere}
use Rattle.std.proofs.lemmas.List.{get_or_read, length-set, length-replicate, get_or-replicate, ext_get_or}
use Rattle.std.proofs.lemmas.List.FromFn.{length-map-range_with_len, get_or-map-range_with_len}
use Rattle.amount_forest.specs.declared.node.Entry.{Entry}
use Rattle.amount_forest.specs.declared.node.Link.{Link}
use Rattle.amount_forest.specs.declared.node.TheConstants.{NONE}
use Rattle.amount_forest.specs.Lists.{Amounts, parts_of, amounts_of, numbers_of, all_of, lists_of, list_at, numbers_at}
use Rattle.amount_forest.specs.Nodes.{IsPool, IsLast, IsEnd, IsKept, place_of, link_at}
use Rattle.amount_forest.specs.declared.forest.AmountForest.TheInside.{Inside}
use Rattle.amount_forest.specs.Forests.{seen, IsForest}
use Rattle.amount_forest.proofs.NewLemmas.{no_link}

pub part_is : {A : Type 0} (part : Entry → A) (es : List Entry) (n list : ℕ) → list < n → slice_index_or (all_of part es n) list [] ≡ parts_of part list es
part_is part es n list within = get_or-map-range_with_len (λ l. parts_of part l es) 0 n list list [] within (omega arith)

pub list_is : (es : List Entry) (n list : ℕ) → list < n → list_at (lists_of es n) list ≡ amounts_of list es
list_is es n list within = part_is (λ e. e.amount) es n list within

pub part_count : {A : Type 0} (part : Entry → A) (es : List Entry) (n : ℕ) → length (all_of part es n) ≡ n
part_count part es n = length-map-range_with_len (λ l. parts_of part l es) 0 n

pub count_is : (es : List Entry) (n : ℕ) → length (lists_of es n) ≡ n
count_is es n = part_count (λ e. e.amount) es n

-- what entries of one of the lists have is other than it was
pub parts_set_at : {A : Type 0} (part : Entry → A) (es fs : List Entry) (n list : ℕ) (new : List A) → list < n → parts_of part list fs ≡ new → ((l : ℕ) → l ≢ list → parts_of part l fs ≡ parts_of part l es) → all_of part fs n ≡ set (all_of part es n) list new
parts_set_at part es fs n list new within here others =
    let len : length (all_of part es n) ≡ n = part_count part es n in
    let len_new : length (all_of part fs n) ≡ n = part_count part fs n in
    ext_get_or [] (all_of part fs n) (set (all_of part es n) list new) (len_new ∙ (sym len ∙ sym (length-set (all_of part es n) list new))) (λ i inner.
    ⊎_elim
    (λ (e : i ≡ list).
    part_is part fs n i (omega arith) ∙ (ap (λ (l : ℕ). parts_of part l fs) e ∙ (here ∙ (sym (get_or-set_same (all_of part es n) list new [] (omega arith)) ∙ ap (λ (l : ℕ). slice_index_or (set (all_of part es n) list new) l []) (sym e)))))
    (λ (ne : i ≢ list).
    part_is part fs n i (omega arith) ∙ (others i ne ∙ (sym (part_is part es n i (omega arith)) ∙ sym (get_or-set_other (all_of part es n) list i new [] ne))))
    (cases_eq i list))

-- and in all of them what it was
pub parts_same : {A : Type 0} (part : Entry → A) (es fs : List Entry) (n : ℕ) → ((l : ℕ) → parts_of part l fs ≡ parts_of part l es) → all_of part fs n ≡ all_of part es n
parts_same part es fs n same =
    let len : length (all_of part es n) ≡ n = part_count part es n in
    let len_new : length (all_of part fs n) ≡ n = part_count part fs n in
    ext_get_or [] (all_of part fs n) (all_of part es n) (len_new ∙ sym len) (λ i inner. part_is part fs n i (omega arith) ∙ (same i ∙ sym (part_is part es n i (omega arith))))

pub list_set : (es fs : List Entry) (n list : ℕ) (new : List (Option ℕ)) → list < n → amounts_of list fs ≡ new → ((l : ℕ) → l ≢ list → amounts_of l fs ≡ amounts_of l es) → lists_of fs n ≡ set (lists_of es n) list new
list_set es fs n list new within here others = parts_set_at (λ e. e.amount) es fs n list new within here others

none_of : {A : Type 0} (part : Entry → A) (list : ℕ) → parts_of part list [] ≡ []
unfolding parts_of
none_of part list = refl

none_in : (list : ℕ) → amounts_of list [] ≡ []
none_in list = none_of (λ e. e.amount) list

pub all_empty : {A : Type 0} (part : Entry → A) (n : ℕ) → all_of part [] n ≡ replicate n []
all_empty part n =
    let len : length (all_of part [] n) ≡ n = part_count part [] n in
    ext_get_or [] (all_of part [] n) (replicate n []) (len ∙ sym (length-replicate n [])) (λ i inner.
    part_is part [] n i (omega arith) ∙ (none_of part i ∙ sym (get_or-replicate n i [] [] (omega arith))))

pub empty_pool : IsPool [] [] []
empty_pool =
    record {
      linked = record {
        size = refl;
        place = λ i within. absurd (omega arith);
        start = λ i within. absurd (omega arith);
        prev = λ i within _. absurd (omega arith);
        jump = λ i within _. absurd (omega arith);
        two = λ i within _. absurd (omega arith);
        nested = λ i k within _ _ _ _. absurd (omega arith);
        up = λ i within _. absurd (omega arith);
        up_within = λ i within _. absurd (omega arith);
      };
      size = refl;
      mended = λ i within. absurd (omega arith);
    }

pub empty_last : (n list : ℕ) → list < n → IsLast [] [] list (slice_index (replicate n NONE) list)
empty_last n list within =
    record {
      none = λ _. ap length (none_in list);
      some = λ ne. absurd (ne (get_or-replicate n list NONE 0 within));
    }

-- the lists that are seen
pub in_range : (s : Inside) (now : Amounts) (list : ℕ) → seen s ≡ now → list < length now.lists → list < length s.lasts.items
in_range s now list is within =
    let count : length now.lists ≡ length s.lasts.items = ap (λ (a : Amounts). length a.lists) (sym is) ∙ count_is s.entries.items (length s.lasts.items) in
    omega arith

pub list_now : (s : Inside) (now : Amounts) (list : ℕ) → seen s ≡ now → list < length now.lists → list_at now.lists list ≡ amounts_of list s.entries.items
list_now s now list is within =
    ap (λ (a : Amounts). list_at a.lists list) (sym is) ∙ list_is s.entries.items (length s.lasts.items) list (in_range s now list is within)

-- the last node of a list, as it is read
pub last_now : (s : Inside) (list last : ℕ) → IsForest s → list < length s.lasts.items → last ≡ get_or s.lasts.items list last → IsLast s.entries.items s.links.items list last
last_now s list last f within read =
    subst (λ (n : ℕ). IsLast s.entries.items s.links.items list n) (sym (get_or_read s.lasts.items list last within read 0)) (f.lasts list within)

pub end_within : (s : Inside) (list last : ℕ) → IsForest s → IsEnd s.entries.items s.links.items list last → last < length s.links.items
end_within s list last f u =
    let size : length s.links.items ≡ length s.entries.items = f.pool.linked.size in
    let within : last < length s.entries.items = u.within in
    omega arith

-- the place of the last node, as it is read
pub place_now : (s : Inside) (list last : ℕ) (link : Link) → IsForest s → IsEnd s.entries.items s.links.items list last → link ≡ get_or s.links.items last link → link.place + 1 ≡ length (amounts_of list s.entries.items)
place_now s list last link f u read =
    ap (λ (k : Link). k.place + 1) (get_or_read s.links.items last link (end_within s list last f u) read no_link) ∙ u.last

-- a list with a place has a last node, at that place or after it
pub some_last : (s : Inside) (now : Amounts) (list last place : ℕ) → IsForest s → seen s ≡ now → list < length now.lists → last ≡ get_or s.lasts.items list last → place < length (list_at now.lists list) → IsEnd s.entries.items s.links.items list last × (place ≤ place_of s.links.items last)
some_last s now list last place f is within read inner =
    let u : IsLast s.entries.items s.links.items list last = last_now s list last f (in_range s now list is within) read in
    let count : length (list_at now.lists list) ≡ length (amounts_of list s.entries.items) = ap length (list_now s now list is within) in
    let some : last ≢ NONE = λ e. (let none = u.none e in omega arith) in
    let end : IsEnd s.entries.items s.links.items list last = u.some some in
    let place_is : place_of s.links.items last + 1 ≡ length (amounts_of list s.entries.items) = end.last in
    (end, omega arith)

-- the last node of the list that was pushed to
pub last_pushed : (es : List Entry) (new : List Link) (e : Entry) → length es < NONE → place_of new (length es) ≡ length (amounts_of e.list es) → IsLast (es ++ e ∷ []) new e.list (length es)
last_pushed es new e small place =
    let count : length (es ++ e ∷ []) ≡ length es + 1 = length-append es (e ∷ []) in
    record {
      none = λ h. absurd (omega arith);
      some = λ _. record {
        within = omega arith;
        of_list = ap (λ (x : Entry). x.list) (new_entry es e);
        last = ap (λ (n : ℕ). n + 1) place ∙ sym (ap length (amounts_here e.list es e refl) ∙ length-append (amounts_of e.list es) (e.amount ∷ []));
      };
    }

-- and of another one
pub last_kept : (es : List Entry) (ks new : List Link) (e : Entry) (l last : ℕ) → l ≢ e.list → ((i : ℕ) → i < length es → IsKept (link_at ks i) (link_at new i)) → IsLast es ks l last → IsLast (es ++ e ∷ []) new l last
last_kept es ks new e l last ne kept u =
    let same : amounts_of l (es ++ e ∷ []) ≡ amounts_of l es = amounts_elsewhere l es e (λ h. ne (sym h)) in
    let count : length (es ++ e ∷ []) ≡ length es + 1 = length-append es (e ∷ []) in
    record {
      none = λ h. ap length same ∙ u.none h;
      some = λ h.
          let end : IsEnd es ks l last = u.some h in
          let inner : last < length es = end.within in
          record {
            within = omega arith;
            of_list = ap (λ (x : Entry). x.list) (old_entry es e last inner) ∙ end.of_list;
            last = ap (λ (n : ℕ). n + 1) (kept last inner).place ∙ (end.last ∙ sym (ap length same));
          };
    }

pub numbers_now : (s : Inside) (now : Amounts) (list : ℕ) → seen s ≡ now → list < length now.lists → numbers_at now.numbers list ≡ numbers_of list s.entries.items
numbers_now s now list is within =
    ap (λ (a : Amounts). numbers_at a.numbers list) (sym is) ∙ part_is (λ e. e.number) s.entries.items (length s.lasts.items) list (in_range s now list is within)
