-- Items and their numbers.
use Rattle.std.proofs.Common.{◌≡◌, ℕ, zero, suc, ◌+◌, ◌-◌, ◌<◌, ◌≤◌, length, Bool, true, false, ◌&&◌, ◌||◌, refl, sym, ap, ◌∙◌, subst, arith, ⊎_elim, ◌⊎◌, inl, inr}
use Rattle.std.specs.Prelude.{nat_lt, nat_eq}
use Rattle.std.proofs.lemmas.Bool.{ltb-true, ltb-false, lt-ltb, le-ltb, eq-eqb, ne_eqb, or_left, and_left, or_from, cases_eq, cases_lt, cases_order}
use Rattle.batch_records.specs.DayRecord.{Day}
use Rattle.machine.specs.Stages.Pending.{item}
use Rattle.scan_laws.specs.Numbers.{before, place_in, items_after, item_count, item_number, item_in, item_of, IsItem, is_earlier}

-- ---- groups

before-rises : (size : ℕ → ℕ) (m n : ℕ) → m ≤ n → before size m ≤ before size n
unfolding before
before-rises size m zero l = let e : m ≡ 0 = omega (arith, l) in subst (λ i. before size i ≤ 0) (sym e) (omega arith)
before-rises size m (suc n) l =
    ⊎_elim
    (λ (e : m ≡ suc n). subst (λ i. before size i ≤ before size n + size n) (sym e) (omega arith))
    (λ (ne : m ≡ suc n → ⊥). let b = before-rises size m n (omega (arith, l, ne)) in omega (arith, b))
    (cases_eq m (suc n))

-- a whole group stands before a later one
pub before-group : (size : ℕ → ℕ) (m n : ℕ) → m < n → before size m + size m ≤ before size n
unfolding before
before-group size m n l = before-rises size (suc m) n (omega (arith, l))

-- g is where i stands, in groups below n
pub record IsPlace (size : ℕ → ℕ) (n i : ℕ) (g : ℕ × ℕ) : Type 0 where
  pub group : g.0 < n
  pub place : g.1 < size g.0
  pub number : before size g.0 + g.1 ≡ i

-- in the groups below n, or in the one after them
abbrev chosen : (ℕ → ℕ) → ℕ → ℕ → Bool → ℕ × ℕ
chosen size n i b = elim b [ true ↦ place_in size n i | false ↦ (n, i - before size n) ]

pub place_in-is : (size : ℕ → ℕ) (n i : ℕ) → i < before size n → IsPlace size n i (place_in size n i)
unfolding before place_in
place_in-is size zero i l = absurd (omega (arith, l))
place_in-is size (suc n) i l = go (nat_lt i (before size n)) refl (place_in-is size n i)
  where
    go : (b : Bool) → nat_lt i (before size n) ≡ b → (i < before size n → IsPlace size n i (place_in size n i)) → IsPlace size (suc n) i (chosen size n i b)
    go true e h =
        let r = h (ltb-true i (before size n) e) in
        let g = r.group in
        record { group = omega (arith, g); place = r.place; number = r.number }
    go false e h =
        let f = ltb-false i (before size n) e in
        record { group = omega arith; place = omega (arith, f, l); number = omega (arith, f) }

pub place_in-at : (size : ℕ → ℕ) (n m k : ℕ) → m < n → k < size m → place_in size n (before size m + k) ≡ (m, k)
unfolding place_in
place_in-at size zero m k l h = absurd (omega (arith, l))
place_in-at size (suc n) m k l h =
    ⊎_elim
    (λ (e : m ≡ n). subst (λ i. place_in size (suc n) (before size i + k) ≡ (i, k)) (sym e) (last (nat_lt (before size n + k) (before size n)) refl))
    (λ (ne : m ≡ n → ⊥). earlier (omega (arith, l, ne)) (nat_lt (before size m + k) (before size n)) refl (place_in-at size n m k (omega (arith, l, ne)) h))
    (cases_eq m n)
  where
    last : (b : Bool) → nat_lt (before size n + k) (before size n) ≡ b → chosen size n (before size n + k) b ≡ (n, k)
    last true e = let t = ltb-true (before size n + k) (before size n) e in absurd (omega (arith, t))
    last false e = let same : before size n + k - before size n ≡ k = omega arith in ap (λ j. (n, j)) same

    earlier : m < n → (b : Bool) → nat_lt (before size m + k) (before size n) ≡ b → place_in size n (before size m + k) ≡ (m, k) → chosen size n (before size m + k) b ≡ (m, k)
    earlier l true e r = r
    earlier l false e r = let f = ltb-false (before size m + k) (before size n) e in let g = before-group size m n l in absurd (omega (arith, f, g, h))

-- what stands after all groups is in none
pub place_in-beyond : (size : ℕ → ℕ) (n i : ℕ) → before size n ≤ i → (n ≤ (place_in size n i).0) ⊎ (size (place_in size n i).0 ≤ (place_in size n i).1)
unfolding before place_in
place_in-beyond size zero i l = inl (omega arith)
place_in-beyond size (suc n) i l = go (nat_lt i (before size n)) refl
  where
    go : (b : Bool) → nat_lt i (before size n) ≡ b → (suc n ≤ (chosen size n i b).0) ⊎ (size (chosen size n i b).0 ≤ (chosen size n i b).1)
    go true e = let t = ltb-true i (before size n) e in absurd (omega (arith, t, l))
    go false e = inr (omega (arith, l))

-- ---- items

pub item-is : (day : Day) (i : ℕ) → i < item_count day → IsItem day (item_of day i).msg (item_of day i).entry
unfolding item_count item_of
item-is day i l =
    let p = place_in-is (items_after day) (length day.messages) i l in
    let a = p.group in
    let b = p.place in
    record { first = omega arith; last = omega (arith, a); entry = omega (arith, b) }

pub number-back : (day : Day) (i : ℕ) → i < item_count day → item_number day (item_of day i).msg (item_of day i).entry ≡ i
unfolding item_count item_of item_number
number-back day i l =
    let g = place_in (items_after day) (length day.messages) i in
    let p = place_in-is (items_after day) (length day.messages) i l in
    let e : suc g.0 - 1 ≡ g.0 = omega arith in
    ap (λ n. before (items_after day) n + g.1) e ∙ p.number

pub number-within : (day : Day) (n k : ℕ) → IsItem day n k → item_number day n k < item_count day
unfolding item_count item_number
number-within day zero k h = let f = h.first in absurd (omega (arith, f))
number-within day (suc n) k h =
    let e : suc n - 1 ≡ n = omega arith in
    let a = h.last in
    let b = h.entry in
    let g = before-group (items_after day) n (length day.messages) (omega (arith, a)) in
    subst (λ i. before (items_after day) i + k < before (items_after day) (length day.messages)) (sym e) (omega (arith, b, g))

pub item-there : (day : Day) (n k : ℕ) → IsItem day n k → item_of day (item_number day n k) ≡ item n k
unfolding item_of item_number
item-there day zero k h = let f = h.first in absurd (omega (arith, f))
item-there day (suc n) k h =
    let e : suc n - 1 ≡ n = omega arith in
    let a = h.last in
    let b = h.entry in
    ap (λ i. item_in (place_in (items_after day) (length day.messages) (before (items_after day) i + k))) e
    ∙ ap item_in (place_in-at (items_after day) (length day.messages) n k (omega (arith, a)) (omega (arith, b)))

-- ---- their order

-- an earlier message's items have lesser numbers
number-message : (day : Day) (n k m j : ℕ) → IsItem day n k → n < m → item_number day n k < item_number day m j
unfolding item_number
number-message day zero k m j h l = let f = h.first in absurd (omega (arith, f))
number-message day (suc n) k zero j h l = absurd (omega (arith, l))
number-message day (suc n) k (suc m) j h l =
    let e : suc n - 1 ≡ n = omega arith in
    let f : suc m - 1 ≡ m = omega arith in
    let b = h.entry in
    let g = before-group (items_after day) n m (omega (arith, l)) in
    subst (λ i. before (items_after day) i + k < before (items_after day) (suc m - 1) + j) (sym e) (subst (λ i. before (items_after day) n + k < before (items_after day) i + j) (sym f) (omega (arith, b, g)))

number-entry : (day : Day) (n k m j : ℕ) → n ≡ m → nat_lt (item_number day n k) (item_number day m j) ≡ nat_lt k j
unfolding item_number
number-entry day n k m j e =
    subst (λ i. nat_lt (before (items_after day) (n - 1) + k) (before (items_after day) (i - 1) + j) ≡ nat_lt k j) e
    (⊎_elim
    (λ (l : k < j). lt-ltb _ _ (omega (arith, l)) ∙ sym (lt-ltb k j l))
    (λ (l : j ≤ k). le-ltb _ _ (omega (arith, l)) ∙ sym (le-ltb k j l))
    (cases_lt k j))

pub number-order : (day : Day) (n k m j : ℕ) → IsItem day n k → IsItem day m j → nat_lt (item_number day n k) (item_number day m j) ≡ is_earlier n k m j
number-order day n k m j a b =
    ⊎_elim
    (λ (e : n ≡ m). number-entry day n k m j e ∙ sym (same e))
    (λ (ne : (n < m) ⊎ (m < n)).
    ⊎_elim
    (λ (l : n < m). lt-ltb _ _ (number-message day n k m j a l) ∙ sym (or_left (nat_lt n m) _ (lt-ltb n m l)))
    (λ (l : m < n).
    let g = number-message day m j n k b l in
    le-ltb _ _ (omega (arith, g))
    ∙ sym (or_from (nat_lt n m) _ (le-ltb n m (omega (arith, l))) (and_left (nat_eq n m) _ (ne_eqb n m (λ e. absurd (omega (arith, e, l)))))))
    ne)
    (cases_order n m)
  where
    same : n ≡ m → is_earlier n k m j ≡ nat_lt k j
    same e = ap (λ b. b || nat_eq n m && nat_lt k j) (le-ltb n m (omega (arith, e))) ∙ ap (λ b. b && nat_lt k j) (eq-eqb n m e)
