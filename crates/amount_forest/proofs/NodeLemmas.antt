-- What nodes stand over.
use Rattle.std.proofs.Common.{◌≡◌, ◌≢◌, ℕ, ◌+◌, ◌<◌, ◌≤◌, Bool, true, false, cond, List, Option, None, Some, length, set, zero, suc, nat_le, min, ◌||◌, refl, ap, sym, ◌∙◌, subst, ⊎_elim, arith, eq-eqb, get_or-set_same, get_or-set_other}
use Rattle.std.proofs.lemmas.Bool.{cases_lt, cases_eq, ne_eqb, false≢true, true≢false, false_from_ne_true}
use Rattle.std.proofs.lemmas.Bool.Decides.{nat_tests}
use Rattle.least_tree.specs.Amounts.{amount_at, fits, least}
use Rattle.amount_forest.specs.declared.node.Entry.{Entry}
use Rattle.amount_forest.specs.declared.node.Link.{Link}
use Rattle.amount_forest.specs.Lists.{amounts_of, rank}
use Rattle.amount_forest.specs.Nodes.{list_of, amount_of, place_of, start_of, prev_of, up_of, second_of, LeadsTo, IsLinked, IsPool, IsMended, least_for}
use Rattle.amount_forest.specs.Searches.{fits_in, NoneFits}
use Rattle.amount_forest.proofs.ListLemmas.{rank_up, rank_within, rank_le, amount_here}

pub place_within : (es : List Entry) (ks : List Link) (i : ℕ) → IsLinked es ks → i < length es → place_of ks i < length (amounts_of (list_of es i) es)
place_within es ks i s within = subst (λ (n : ℕ). n < length (amounts_of (list_of es i) es)) (sym (s.place i within)) (rank_within (list_of es i) i es within refl)

pub place_small : (es : List Entry) (ks : List Link) (i : ℕ) → IsLinked es ks → i < length es → place_of ks i ≤ i
place_small es ks i s within = subst (λ (n : ℕ). n ≤ i) (sym (s.place i within)) (rank_le (list_of es i) i es)

place_rises : (es : List Entry) (ks : List Link) (i k : ℕ) → IsLinked es ks → i < k → k < length es → list_of es i ≡ list_of es k → place_of ks i < place_of ks k
place_rises es ks i k s less within same =
    let up : rank (list_of es k) i es < rank (list_of es k) k es = rank_up (list_of es k) i k es less (omega arith) same in
    let low : place_of ks i ≡ rank (list_of es k) i es = s.place i (omega arith) ∙ ap (λ (l : ℕ). rank l i es) same in
    let high : place_of ks k ≡ rank (list_of es k) k es = s.place k within in
    omega arith

-- a place of a list has one node
pub one_node : (es : List Entry) (ks : List Link) (i k : ℕ) → IsLinked es ks → i < length es → k < length es → list_of es i ≡ list_of es k → place_of ks i ≡ place_of ks k → i ≡ k
one_node es ks i k s within other same place =
    ⊎_elim
    (λ (h : i < k). let less = place_rises es ks i k s h other same in absurd (omega arith))
    (λ (h : k ≤ i).
    ⊎_elim
    (λ (e : i ≡ k). e)
    (λ (ne : i ≢ k). let less = place_rises es ks k i s (omega (arith, ne)) within (sym same) in absurd (omega arith))
    (cases_eq i k))
    (cases_lt i k)

pub amount_is : (es : List Entry) (ks : List Link) (i : ℕ) → IsLinked es ks → i < length es → amount_at (amounts_of (list_of es i) es) (place_of ks i) ≡ amount_of es i
amount_is es ks i s within = ap (amount_at (amounts_of (list_of es i) es)) (s.place i within) ∙ amount_here (list_of es i) i es within refl

-- the first of the two nodes of one
pub first_leads : (es : List Entry) (ks : List Link) (i : ℕ) → IsLinked es ks → i < length es → start_of ks i < place_of ks i → LeadsTo es ks i (prev_of ks i) (place_of ks i)
first_leads es ks i s within inner = s.prev i within (omega arith)

-- and the second
pub second_leads : (es : List Entry) (ks : List Link) (i : ℕ) → IsLinked es ks → i < length es → start_of ks i < place_of ks i → LeadsTo es ks (prev_of ks i) (second_of ks i) (start_of ks (prev_of ks i))
second_leads es ks i s within inner =
    let first = first_leads es ks i s within inner in
    let earlier : prev_of ks i < i = first.earlier in
    s.jump (prev_of ks i) (omega arith) (s.two i within inner).first

-- the least amount of a node that has two
pub inner_least : (es : List Entry) (ks : List Link) (ms : List (Option ℕ)) (i : ℕ) → start_of ks i < place_of ks i → least_for es ks ms i ≡ least (amount_of es i) (least (amount_at ms (prev_of ks i)) (amount_at ms (second_of ks i)))
inner_least es ks ms i inner =
    ap (λ (b : Bool). cond b (amount_of es i) (least (amount_of es i) (least (amount_at ms (prev_of ks i)) (amount_at ms (second_of ks i))))) (ne_eqb (start_of ks i) (place_of ks i) (λ e. omega arith))

-- and of one that has none
pub leaf_least : (es : List Entry) (ks : List Link) (ms : List (Option ℕ)) (i : ℕ) → start_of ks i ≡ place_of ks i → least_for es ks ms i ≡ amount_of es i
leaf_least es ks ms i leaf =
    ap (λ (b : Bool). cond b (amount_of es i) (least (amount_of es i) (least (amount_at ms (prev_of ks i)) (amount_at ms (second_of ks i))))) (eq-eqb (start_of ks i) (place_of ks i) leaf)

-- leasts of nodes under it that are as they were leave what a node has to have
pub same_least : (es : List Entry) (ks : List Link) (ms ns : List (Option ℕ)) (i : ℕ) → IsLinked es ks → i < length es → (start_of ks i < place_of ks i → (amount_at ns (prev_of ks i) ≡ amount_at ms (prev_of ks i)) × (amount_at ns (second_of ks i) ≡ amount_at ms (second_of ks i))) → least_for es ks ns i ≡ least_for es ks ms i
same_least es ks ms ns i s within same =
    ⊎_elim
    (λ (h : start_of ks i < place_of ks i).
    let both = same h in
    inner_least es ks ns i h
    ∙ (ap (λ (a : Option ℕ). least (amount_of es i) (least a (amount_at ns (second_of ks i)))) both.0
    ∙ (ap (λ (a : Option ℕ). least (amount_of es i) (least (amount_at ms (prev_of ks i)) a)) both.1 ∙ sym (inner_least es ks ms i h))))
    (λ (h : place_of ks i ≤ start_of ks i).
    let low : start_of ks i ≤ place_of ks i = s.start i within in
    let leaf : start_of ks i ≡ place_of ks i = omega arith in
    leaf_least es ks ns i leaf ∙ sym (leaf_least es ks ms i leaf))
    (cases_lt (start_of ks i) (place_of ks i))

-- after a node is mended, only the one that it is of may not be
pub mended_more : (es : List Entry) (ks : List Link) (ms : List (Option ℕ)) (at i : ℕ) (amount : Option ℕ) → IsLinked es ks → length ms ≡ length es → at < length es → amount ≡ least_for es ks ms at → i < length es → i ≢ up_of ks at → (i ≢ at → IsMended es ks ms i) → IsMended es ks (set ms at amount) i
mended_more es ks ms at i amount s size inner is within free others =
    let ns : List (Option ℕ) = set ms at amount in
    let same : least_for es ks ns i ≡ least_for es ks ms i =
    same_least es ks ms ns i s within (λ h.
    let first = (s.two i within h).first_up in
    let second = (s.two i within h).second_up in (
      get_or-set_other ms at (prev_of ks i) amount None (λ e. free (sym first ∙ ap (up_of ks) e)),
      get_or-set_other ms at (second_of ks i) amount None (λ e. free (sym second ∙ ap (up_of ks) e)),
    )) in
    ⊎_elim
    (λ (e : i ≡ at).
    ap (amount_at ns) e ∙ (get_or-set_same ms at amount None (omega arith) ∙ (is ∙ (ap (least_for es ks ms) (sym e) ∙ sym same))))
    (λ (ne : i ≢ at). get_or-set_other ms at i amount None ne ∙ (others ne ∙ sym same))
    (cases_eq i at)

or-false : (b : Bool) → b ≡ b || false
or-false true = refl
or-false false = refl

le-min : (a b most : ℕ) → nat_le (min a b) most ≡ nat_le a most || nat_le b most
le-min a b most = grind (arith, nat_tests)

-- the less of two amounts fits where one of them does
fits-least : (most : ℕ) (a b : Option ℕ) → fits most (least a b) ≡ fits most a || fits most b
fits-least most None b = refl
fits-least most (Some a) None = or-false (nat_le a most)
fits-least most (Some a) (Some b) = le-min a b most

or_left : (x y : Bool) → x ≡ true → x || y ≡ true
or_left true y e = refl
or_left false y e = absurd (false≢true e)

or_right : (x y : Bool) → y ≡ true → x || y ≡ true
or_right true y e = refl
or_right false y e = e

or_other : (x y : Bool) → x || y ≡ true → x ≡ false → y ≡ true
or_other true y e fails = absurd (true≢false fails)
or_other false y e fails = e

fits_left : (most : ℕ) (a b : Option ℕ) → fits most a ≡ true → fits most (least a b) ≡ true
fits_left most a b e = fits-least most a b ∙ or_left (fits most a) (fits most b) e

fits_right : (most : ℕ) (a b : Option ℕ) → fits most b ≡ true → fits most (least a b) ≡ true
fits_right most a b e = fits-least most a b ∙ or_right (fits most a) (fits most b) e

pub fits_other : (most : ℕ) (a b : Option ℕ) → fits most (least a b) ≡ true → fits most a ≡ false → fits most b ≡ true
fits_other most a b e fails = or_other (fits most a) (fits most b) (sym (fits-least most a b) ∙ e) fails

-- the less of three amounts doesn't fit by the second or the third
pub fits_first : (most : ℕ) (a b c : Option ℕ) → fits most (least a (least b c)) ≡ true → fits most b ≡ false → fits most c ≡ false → fits most a ≡ true
fits_first most a b c e nb nc =
    elim (fits most a) as (λ (t : Bool). fits most a ≡ t → t ≡ true) [
      | true ↦ λ _. refl
      | false ↦ λ na. absurd (false≢true (sym nc ∙ fits_other most b c (fits_other most a (least b c) e na) nb))
    ] refl

-- a node fits where a place fits that it stands over
pub cover : (bound : ℕ) (es : List Entry) (ks : List Link) (ms : List (Option ℕ)) (most i p : ℕ) → IsPool es ks ms → i < bound → i < length es → start_of ks i ≤ p → p ≤ place_of ks i → fits_in es (list_of es i) most p ≡ true → fits most (amount_at ms i) ≡ true
cover zero es ks ms most i p pool less within low high e = absurd (omega arith)
cover (suc bound) es ks ms most i p pool less within low high e =
    let s : IsLinked es ks = pool.linked in
    ⊎_elim
    (λ (last : p ≡ place_of ks i).
    let own : fits most (amount_of es i) ≡ true = ap (fits most) (sym (amount_is es ks i s within)) ∙ (ap (fits_in es (list_of es i) most) (sym last) ∙ e) in
    ⊎_elim
    (λ (h : start_of ks i < place_of ks i).
    ap (fits most) (pool.mended i within ∙ inner_least es ks ms i h) ∙ fits_left most (amount_of es i) (least (amount_at ms (prev_of ks i)) (amount_at ms (second_of ks i))) own)
    (λ (h : place_of ks i ≤ start_of ks i).
    let start : start_of ks i ≤ place_of ks i = s.start i within in
    ap (fits most) (pool.mended i within ∙ leaf_least es ks ms i (omega arith)) ∙ own)
    (cases_lt (start_of ks i) (place_of ks i)))
    (λ (other : p ≢ place_of ks i).
    let before : p < place_of ks i = omega (arith, other) in
    let h : start_of ks i < place_of ks i = omega arith in
    let first = first_leads es ks i s within h in
    let second = second_leads es ks i s within h in
    let first_next : place_of ks (prev_of ks i) + 1 ≡ place_of ks i = first.next in
    let second_next : place_of ks (second_of ks i) + 1 ≡ start_of ks (prev_of ks i) = second.next in
    let first_earlier : prev_of ks i < i = first.earlier in
    let second_earlier : second_of ks i < prev_of ks i = second.earlier in
    let second_start : start_of ks (second_of ks i) ≡ start_of ks i = (s.two i within h).second in
    let under : fits most (least (amount_at ms (prev_of ks i)) (amount_at ms (second_of ks i))) ≡ true =
    ⊎_elim
    (λ (l : p < start_of ks (prev_of ks i)).
    fits_right most (amount_at ms (prev_of ks i)) (amount_at ms (second_of ks i))
    (cover bound es ks ms most (second_of ks i) p pool (omega arith) (omega arith) (omega arith) (omega arith)
    (ap (λ (l : ℕ). fits_in es l most p) (second.same_list ∙ first.same_list) ∙ e)))
    (λ (l : start_of ks (prev_of ks i) ≤ p).
    fits_left most (amount_at ms (prev_of ks i)) (amount_at ms (second_of ks i))
    (cover bound es ks ms most (prev_of ks i) p pool (omega arith) (omega arith) l (omega arith)
    (ap (λ (l : ℕ). fits_in es l most p) first.same_list ∙ e)))
    (cases_lt p (start_of ks (prev_of ks i))) in
    ap (fits most) (pool.mended i within ∙ inner_least es ks ms i h) ∙ fits_right most (amount_of es i) (least (amount_at ms (prev_of ks i)) (amount_at ms (second_of ks i))) under)
    (cases_eq p (place_of ks i))

-- where a node doesn't fit, none of the places that it stands over does
pub none_under : (es : List Entry) (ks : List Link) (ms : List (Option ℕ)) (most i : ℕ) → IsPool es ks ms → i < length es → fits most (amount_at ms i) ≡ false → NoneFits es (list_of es i) most (start_of ks i) (place_of ks i + 1)
none_under es ks ms most i pool within fails p low high =
    false_from_ne_true (fits_in es (list_of es i) most p) (λ e. false≢true (sym fails ∙ cover (i + 1) es ks ms most i p pool (omega arith) within low (omega arith) e))
