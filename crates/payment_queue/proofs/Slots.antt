-- Slots, and the rows that stand at them.
use Rattle.std.proofs.Common.{◌≡◌, ◌≢◌, ℕ, zero, suc, ◌+◌, ◌<◌, Bool, true, false, cond, List, [], ◌∷◌, Option, Some, None, length, map, set, replicate, refl, sym, ap, ◌∙◌, subst, inl, inr, arith}
use Rattle.std.specs.List.{All, Contains, find, list_any}
use Rattle.std.specs.Option.{is_none, is_some, unwrap_or}
use Rattle.std.proofs.lemmas.Bool.{cases_lt, false_from_ne_true, true≢false}
use Rattle.std.proofs.lemmas.List.{ext_get_or, get_or_past, get_or-map, get_or-replicate, get_or-set_same, get_or-set_other, length-map, length-replicate}
use Rattle.std.proofs.lemmas.List.Elements.{All-cons, All-contains, All-head, All-nil}
use Rattle.number_set.specs.Members.{has}
use Rattle.number_set.specs.Next.{IsNext}
use Rattle.machine.specs.declared.answers.Item.{Item}
use Rattle.payment_queue.specs.declared.row.Row.{Row}
use Rattle.payment_queue.specs.Queued.{first_free, is_row_of, row_in, standing}
use Rattle.payment_queue.specs.Indexed.{blank, live, row_at}
use Rattle.payment_queue.proofs.Members.{any_where_contained, cases_contained, found_passes, found_where_any, here, there}

-- ---- a slot by itself

pub live_slot : (slots : List (Option Row)) (s : ℕ) → live slots s ≡ true → s < length slots
live_slot slots s h = elim (cases_lt s (length slots)) [
  | inl less ↦ less
  | inr le ↦ absurd (true≢false (sym h ∙ ap is_some (get_or_past slots s None le)))
]

some_row : (o : Option Row) → is_some o ≡ true → o ≡ Some (unwrap_or o blank)
some_row None h = cc
some_row (Some r) h = refl

pub row_is : (slots : List (Option Row)) (s : ℕ) → live slots s ≡ true → row_in slots s ≡ Some (row_at slots s)
row_is slots s h = some_row (row_in slots s) h

pub none_is : (o : Option Row) → is_some o ≡ false → o ≡ None
none_is None h = refl
none_is (Some r) h = cc

row_of_item : (a : ℕ) (x : Item) (o : Option Row) → is_row_of a x o ≡ true → is_some o ≡ true
row_of_item a x None h = cc
row_of_item a x (Some r) h = refl

pub live_item : (slots : List (Option Row)) (a : ℕ) (x : Item) (s : ℕ) → is_row_of a x (row_in slots s) ≡ true → live slots s ≡ true
live_item slots a x s h = row_of_item a x (row_in slots s) h

-- ---- one slot set anew

pub row_same : (slots : List (Option Row)) (s : ℕ) (o : Option Row) → s < length slots → row_in (set slots s o) s ≡ o
row_same slots s o h = get_or-set_same slots s o None h

pub row_other : (slots : List (Option Row)) (s : ℕ) (o : Option Row) (u : ℕ) → u ≢ s → row_in (set slots s o) u ≡ row_in slots u
row_other slots s o u ne = get_or-set_other slots s u o None ne

pub live_other : (slots : List (Option Row)) (s : ℕ) (o : Option Row) (u : ℕ) → u ≢ s → live (set slots s o) u ≡ live slots u
live_other slots s o u ne = ap is_some (row_other slots s o u ne)

pub at_other : (slots : List (Option Row)) (s : ℕ) (o : Option Row) (u : ℕ) → u ≢ s → row_at (set slots s o) u ≡ row_at slots u
at_other slots s o u ne = ap (λ (r : Option Row). unwrap_or r blank) (row_other slots s o u ne)

pub live_same : (slots : List (Option Row)) (s : ℕ) (o : Option Row) → s < length slots → live (set slots s o) s ≡ is_some o
live_same slots s o h = ap is_some (row_same slots s o h)

pub at_same : (slots : List (Option Row)) (s : ℕ) (r : Row) → s < length slots → row_at (set slots s (Some r)) s ≡ r
at_same slots s r h = ap (λ (o : Option Row). unwrap_or o blank) (row_same slots s (Some r) h)

-- nothing stands in slots of which none has a row
pub none_live : (n s : ℕ) → row_in (replicate n None) s ≡ None
none_live n s = elim (cases_lt s n) [
  | inl less ↦ get_or-replicate n s None None less
  | inr le ↦ (let e : length (replicate {A = Option Row} n None) ≡ n = length-replicate n None in get_or_past (replicate n None) s None (omega arith))
]

-- ---- the rows that stand

pub contains_standing : (slots : List (Option Row)) (s : ℕ) (r : Row) → row_in slots s ≡ Some r → Contains (standing slots) r
unfolding standing
contains_standing [] s r e = (let none : row_in [] s ≡ None = get_or_past [] s None (omega arith) in cc)
contains_standing (None ∷ slots) zero r e = cc
contains_standing (None ∷ slots) (suc s) r e = contains_standing slots s r e
contains_standing (Some q ∷ slots) zero r e = (let same : q ≡ r = cc in subst (Contains (q ∷ standing slots)) same (here q (standing slots)))
contains_standing (Some q ∷ slots) (suc s) r e = there q r (standing slots) (contains_standing slots s r e)

-- a row that stands does so at a slot
pub slot_of_standing : (slots : List (Option Row)) (r : Row) → Contains (standing slots) r → (s : ℕ) × (row_in slots s ≡ Some r)
unfolding standing
slot_of_standing [] r c = absurd (omega (arith, c.1))
slot_of_standing (None ∷ slots) r c = let ih = slot_of_standing slots r c in (suc ih.0, ih.1)
slot_of_standing (Some q ∷ slots) r c = elim (cases_contained q r (standing slots) c) [
  | inl e ↦ (zero, ap Some e)
  | inr c' ↦ (let ih = slot_of_standing slots r c' in (suc ih.0, ih.1))
]

pub all_standing : (P : Row → Type 0) (slots : List (Option Row)) → ((s : ℕ) (r : Row) → row_in slots s ≡ Some r → P r) → All P (standing slots)
unfolding standing
all_standing P [] h = All-nil P
all_standing P (None ∷ slots) h = all_standing P slots (λ s. h (suc s))
all_standing P (Some q ∷ slots) h = All-cons P q (standing slots) (h zero q refl) (all_standing P slots (λ s. h (suc s)))

-- a test that no row passes, by slot
pub none_passes : (slots : List (Option Row)) (p : Row → Bool) → list_any p (standing slots) ≡ false → (u : ℕ) → live slots u ≡ true → p (row_at slots u) ≡ false
none_passes slots p none u lu = false_from_ne_true (p (row_at slots u)) (λ h.
    true≢false (sym (any_where_contained p (standing slots) (row_at slots u) (contains_standing slots u (row_at slots u) (row_is slots u lu)) h) ∙ none))

pub none_any : (slots : List (Option Row)) (p : Row → Bool) → ((u : ℕ) (r : Row) → row_in slots u ≡ Some r → p r ≡ false) → list_any p (standing slots) ≡ false
none_any slots p none = false_from_ne_true (list_any p (standing slots)) (λ h.
    let found = found_where_any p (standing slots) h in
    let c = found_passes p (standing slots) found.0 found.1 in
    true≢false (sym c.1 ∙ All-contains (λ r. p r ≡ false) (standing slots) found.0 (all_standing (λ r. p r ≡ false) slots none) c.0))

-- the one row that passes is found
pub find_at : (slots : List (Option Row)) (p : Row → Bool) (t : ℕ) → live slots t ≡ true → p (row_at slots t) ≡ true → ((u : ℕ) → live slots u ≡ true → p (row_at slots u) ≡ true → u ≡ t) →
    find p (standing slots) ≡ Some (row_at slots t)
find_at slots p t lt pt one =
    let found = found_where_any p (standing slots) (any_where_contained p (standing slots) (row_at slots t) (contains_standing slots t (row_at slots t) (row_is slots t lt)) pt) in
    let c = found_passes p (standing slots) found.0 found.1 in
    let at = slot_of_standing slots found.0 c.0 in
    let same : row_at slots at.0 ≡ found.0 = ap (λ (o : Option Row). unwrap_or o blank) at.1 in
    let e : at.0 ≡ t = one at.0 (ap is_some at.1) (ap p same ∙ c.1) in
    found.1 ∙ ap Some (sym same ∙ ap (row_at slots) e)

-- ---- how many stand

pub one_more : (slots : List (Option Row)) (s : ℕ) (r : Row) → s < length slots → row_in slots s ≡ None → length (standing (set slots s (Some r))) ≡ length (standing slots) + 1
unfolding standing
one_more [] s r h e = absurd (omega (arith, h))
one_more (None ∷ slots) zero r h e = omega arith
one_more (Some q ∷ slots) zero r h e = cc
one_more (None ∷ slots) (suc s) r h e = one_more slots s r (omega arith) e
one_more (Some q ∷ slots) (suc s) r h e = let ih = one_more slots s r (omega arith) e in omega (arith, ih)

pub one_less : (slots : List (Option Row)) (s : ℕ) → live slots s ≡ true → length (standing (set slots s None)) + 1 ≡ length (standing slots)
unfolding standing
one_less [] s h = absurd (let less : s < 0 = live_slot [] s h in omega arith)
one_less (None ∷ slots) zero h = cc
one_less (Some q ∷ slots) zero h = omega arith
one_less (None ∷ slots) (suc s) h = one_less slots s h
one_less (Some q ∷ slots) (suc s) h = let ih = one_less slots s h in omega (arith, ih)

pub none_standing : (n : ℕ) → standing (replicate n None) ≡ []
none_standing n = none (standing (replicate n None)) (all_standing (λ r. ⊥) (replicate n None) (λ s r e. (let h : row_in (replicate n None) s ≡ None = none_live n s in cc)))
  where
    none : (rows : List Row) → All (λ r. ⊥) rows → rows ≡ []
    none [] a = refl
    none (r ∷ rows) a = absurd (All-head (λ r. ⊥) r rows a)

-- ---- slots at which nothing stands

pub free_slot : (slots : List (Option Row)) (k : ℕ) → has (map is_none slots) k ≡ true → (k < length slots) × (row_in slots k ≡ None)
free_slot [] k h = absurd (true≢false (sym h ∙ get_or_past [] k false (omega arith)))
free_slot (None ∷ slots) zero h = (omega arith, refl)
free_slot (Some r ∷ slots) zero h = cc
free_slot (o ∷ slots) (suc k) h = let ih = free_slot slots k h in (omega (arith, ih.0), ih.1)

pub all_taken : (slots : List (Option Row)) → ((k : ℕ) → has (map is_none slots) k ≡ false) → length (standing slots) ≡ length slots
unfolding standing
all_taken [] h = refl
all_taken (None ∷ slots) h = absurd (true≢false (h zero))
all_taken (Some r ∷ slots) h = let ih = all_taken slots (λ k. h (suc k)) in omega (arith, ih)

pub some_free : (slots : List (Option Row)) (free : List Bool) (o : Option ℕ) → free ≡ map is_none slots → length (standing slots) < length slots → IsNext (has free) 0 o → is_some o ≡ true
some_free slots free None e spare none = absurd (let full = all_taken slots (λ k. ap (λ (f : List Bool). has f k) (sym e) ∙ none k (omega arith)) in omega (arith, full))
some_free slots free (Some s) e spare least = refl

pub first_is : (slots : List (Option Row)) (n : ℕ) → has (map is_none slots) n ≡ true → ((k : ℕ) → k < n → has (map is_none slots) k ≡ false) → n ≡ first_free slots
unfolding first_free
first_is [] n h none = absurd (true≢false (sym h ∙ get_or_past [] n false (omega arith)))
first_is (None ∷ slots) zero h none = refl
first_is (None ∷ slots) (suc n) h none = absurd (true≢false (none zero (omega arith)))
first_is (Some r ∷ slots) zero h none = cc
first_is (Some r ∷ slots) (suc n) h none = ap suc (first_is slots n h (λ k less. none (suc k) (omega arith)))

pub all_members : (set : List Bool) (n : ℕ) → length set ≡ n → ((k : ℕ) → k < n → has set k ≡ true) → set ≡ replicate n true
all_members set n size all =
    let len : length (replicate n true) ≡ n = length-replicate n true in
    ext_get_or false set (replicate n true) (omega arith) (λ k within. all k (omega arith) ∙ sym (get_or-replicate n k true false (omega arith)))

pub all_free : (n : ℕ) → map is_none (replicate {A = Option Row} n None) ≡ replicate n true
all_free n =
    let len : length (replicate {A = Option Row} n None) ≡ n = length-replicate n None in
    all_members (map is_none (replicate {A = Option Row} n None)) n (length-map (replicate {A = Option Row} n None) is_none ∙ len)
    (λ k within. get_or-map is_none (replicate {A = Option Row} n None) k None false (omega arith) ∙ ap is_none (none_live n k))

-- ---- without an item

unchanged : (a : ℕ) (x : Item) (slots : List (Option Row)) → ((u : ℕ) → is_row_of a x (row_in slots u) ≡ false) → map (λ o. cond (is_row_of a x o) None o) slots ≡ slots
unchanged a x [] h = refl
unchanged a x (o ∷ slots) h = λ i. cond (h zero i) None o ∷ unchanged a x slots (λ u. h (suc u)) i

-- to take off an item is to clear its slot, where it stands at no other
pub cleared_left : (a : ℕ) (x : Item) (slots : List (Option Row)) (s : ℕ) → s < length slots → is_row_of a x (row_in slots s) ≡ true → ((u : ℕ) → u ≢ s → is_row_of a x (row_in slots u) ≡ false) →
    set slots s None ≡ map (λ o. cond (is_row_of a x o) None o) slots
cleared_left a x [] s h e others = absurd (omega (arith, h))
cleared_left a x (o ∷ slots) zero h e others = sym (λ i. cond (e i) None o ∷ unchanged a x slots (λ u. others (suc u) (λ z. omega (arith, z))) i)
cleared_left a x (o ∷ slots) (suc s) h e others =
    let first : is_row_of a x o ≡ false = others zero (λ z. omega (arith, z)) in
    let rest = cleared_left a x slots s (omega arith) e (λ u ne. others (suc u) (λ z. ne (omega (arith, z)))) in
    ap (λ xs. o ∷ xs) rest ∙ ap (λ b. cond b None o ∷ map (λ o. cond (is_row_of a x o) None o) slots) (sym first)
