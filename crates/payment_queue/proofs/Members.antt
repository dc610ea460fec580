-- Rows in a list: which are in it after a change, and what the words of a queue tell of them. For those who call the queue.
use Rattle.std.proofs.Common.{◌≡◌, ◌⊎◌, ℕ, zero, suc, ◌<◌, Bool, true, false, cond, List, [], ◌∷◌, Some, length, slice_index_or, refl, sym, ap, ◌∙◌, subst, inl, inr, arith}
use Rattle.std.specs.List.{All, Contains, filter, find, list_any}
use Rattle.std.proofs.lemmas.Bool.{cases_Bool, false_from_ne_true, or_cases, or_left, or_right, true≢false}
use Rattle.std.proofs.lemmas.List.Elements.{All-cons, All-head, All-nil, All-tail, All-weaker}
use Rattle.machine.specs.declared.answers.Item.{Item}
use Rattle.payment_queue.specs.declared.row.Row.{Row}
use Rattle.payment_queue.specs.Standing.{is_item}
use Rattle.payment_queue.specs.Queued.{row_of, stands_on}

pub here : (r : Row) (rows : List Row) → Contains (r ∷ rows) r
here r rows = (zero, omega arith, refl)

pub there : (r s : Row) (rows : List Row) → Contains rows s → Contains (r ∷ rows) s
there r s rows c = (suc c.0, omega (arith, c.1), c.2)

contained : (r s : Row) (rows : List Row) (k : ℕ) → k < length (r ∷ rows) → slice_index_or (r ∷ rows) k s ≡ s → (r ≡ s) ⊎ Contains rows s
contained r s rows zero h e = inl e
contained r s rows (suc k) h e = inr (k, omega arith, e)

pub cases_contained : (r s : Row) (rows : List Row) → Contains (r ∷ rows) s → (r ≡ s) ⊎ Contains rows s
cases_contained r s rows c = contained r s rows c.0 c.1 c.2

pub contains_filtered : (p : Row → Bool) (rows : List Row) (s : Row) → Contains (filter p rows) s → Contains rows s × (p s ≡ true)
contains_filtered p [] s c = absurd (omega (arith, c.1))
contains_filtered p (r ∷ rows) s c = elim (cases_Bool (p r)) [
  | inl h ↦ elim (cases_contained r s (filter p rows) (subst (λ (b : Bool). Contains (cond b (r ∷ filter p rows) (filter p rows)) s) h c)) [
    | inl e ↦ (subst (Contains (r ∷ rows)) e (here r rows), ap p (sym e) ∙ h)
    | inr c' ↦ (let ih = contains_filtered p rows s c' in (there r s rows ih.0, ih.1))
  ]
  | inr h ↦ (let ih = contains_filtered p rows s (subst (λ (b : Bool). Contains (cond b (r ∷ filter p rows) (filter p rows)) s) h c) in (there r s rows ih.0, ih.1))
]

pub all_filtered : (P : Row → Type 0) (p : Row → Bool) (rows : List Row) → All P (filter p rows) → All (λ s. p s ≡ true → P s) rows
all_filtered P p [] a = All-nil (λ s. p s ≡ true → P s)
all_filtered P p (r ∷ rows) a = elim (cases_Bool (p r)) [
  | inl h ↦ (let b : All P (r ∷ filter p rows) = subst (λ (b : Bool). All P (cond b (r ∷ filter p rows) (filter p rows))) h a in
      All-cons (λ s. p s ≡ true → P s) r rows (λ e. All-head P r (filter p rows) b) (all_filtered P p rows (All-tail P r (filter p rows) b)))
  | inr h ↦ (let b : All P (filter p rows) = subst (λ (b : Bool). All P (cond b (r ∷ filter p rows) (filter p rows))) h a in
      All-cons (λ s. p s ≡ true → P s) r rows (λ e. absurd (true≢false (sym e ∙ h))) (all_filtered P p rows b))
]

pub none_filtered : (p : Row → Bool) (rows : List Row) → filter p rows ≡ [] → All (λ s. p s ≡ false) rows
none_filtered p rows e = All-weaker (λ s. p s ≡ true → ⊥) (λ s. p s ≡ false) (λ s no. false_from_ne_true (p s) no) rows
    (all_filtered (λ s. ⊥) p rows (subst (All (λ s. ⊥)) (sym e) (All-nil (λ s. ⊥))))

-- what passes stays
pub filtered_contains : (p : Row → Bool) (rows : List Row) (s : Row) → Contains rows s → p s ≡ true → Contains (filter p rows) s
filtered_contains p [] s c e = absurd (omega (arith, c.1))
filtered_contains p (r ∷ rows) s c e = elim (cases_contained r s rows c) [
  | inl same ↦ subst (λ (b : Bool). Contains (cond b (r ∷ filter p rows) (filter p rows)) s) (sym (ap p same ∙ e)) (subst (Contains (r ∷ filter p rows)) same (here r (filter p rows)))
  | inr c' ↦ (let ih = filtered_contains p rows s c' e in
      elim (p r) as (λ b. Contains (cond b (r ∷ filter p rows) (filter p rows)) s) [ true ↦ there r s (filter p rows) ih | false ↦ ih ])
]

-- ---- the row of an item

pub found_passes : (p : Row → Bool) (rows : List Row) (s : Row) → find p rows ≡ Some s → Contains rows s × (p s ≡ true)
found_passes p [] s e = cc
found_passes p (r ∷ rows) s e = elim (cases_Bool (p r)) [
  | inl h ↦ (let same : Some r ≡ Some s = subst (λ (b : Bool). cond b (Some r) (find p rows) ≡ Some s) h e in
      let row : r ≡ s = cc in (subst (Contains (r ∷ rows)) row (here r rows), ap p (sym row) ∙ h))
  | inr h ↦ (let ih = found_passes p rows s (subst (λ (b : Bool). cond b (Some r) (find p rows) ≡ Some s) h e) in (there r s rows ih.0, ih.1))
]

pub found_where_any : (p : Row → Bool) (rows : List Row) → list_any p rows ≡ true → (r : Row) × (find p rows ≡ Some r)
found_where_any p [] h = absurd (true≢false (sym h))
found_where_any p (r ∷ rows) h = elim (cases_Bool (p r)) [
  | inl e ↦ (r, ap (λ b. cond b (Some r) (find p rows)) e)
  | inr e ↦ elim (or_cases (p r) (list_any p rows) h) [
    | inl e' ↦ absurd (true≢false (sym e' ∙ e))
    | inr h' ↦ (let ih = found_where_any p rows h' in (ih.0, ap (λ b. cond b (Some r) (find p rows)) e ∙ ih.1))
  ]
]

pub any_where_contained : (p : Row → Bool) (rows : List Row) (s : Row) → Contains rows s → p s ≡ true → list_any p rows ≡ true
any_where_contained p [] s c e = absurd (omega (arith, c.1))
any_where_contained p (r ∷ rows) s c e = elim (cases_contained r s rows c) [
  | inl same ↦ or_left (p r) (list_any p rows) (ap p same ∙ e)
  | inr c' ↦ or_right (p r) (list_any p rows) (any_where_contained p rows s c' e)
]

-- the row that is found is in the list, and is that of the item
pub row_of_found : (rows : List Row) (a : ℕ) (x : Item) (r : Row) → row_of rows a x ≡ Some r → Contains rows r × (is_item a x r ≡ true)
row_of_found rows a x r e = found_passes (is_item a x) rows r e

-- where the item stands there is one
pub row_of_there : (rows : List Row) (a : ℕ) (x : Item) → stands_on rows a x ≡ true → (r : Row) × (row_of rows a x ≡ Some r)
row_of_there rows a x h = found_where_any (is_item a x) rows h

-- an item whose row is in the list stands on its account
pub stands_where_contained : (rows : List Row) (a : ℕ) (x : Item) (r : Row) → Contains rows r → is_item a x r ≡ true → stands_on rows a x ≡ true
stands_where_contained rows a x r c e = any_where_contained (is_item a x) rows r c e

-- an item of which no row is in the list doesn't stand there
pub absent_where_none : (rows : List Row) (a : ℕ) (x : Item) → ((r : Row) → Contains rows r → is_item a x r ≡ false) → stands_on rows a x ≡ false
absent_where_none rows a x none = false_from_ne_true (stands_on rows a x) (λ h.
    let found = found_where_any (is_item a x) rows h in
    let c = found_passes (is_item a x) rows found.0 found.1 in
    true≢false (sym c.1 ∙ none found.0 c.0))
