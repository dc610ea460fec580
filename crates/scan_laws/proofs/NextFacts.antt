-- What is next, and why a small set shows it.
use Rattle.std.proofs.Common.{◌≡◌, ℕ, zero, suc, ◌+◌, ◌<◌, ◌≤◌, Bool, true, false, ◌&&◌, ◌||◌, Option, Some, None, refl, sym, ap, ◌∙◌, subst, arith, ⊎_elim, ◌⊎◌, inl, inr}
use Rattle.std.specs.Prelude.{nat_le, if◌then◌else◌}
use Rattle.std.proofs.lemmas.Bool.{and_parts, and_from, or_cases, or_left, or_right, leb-true, leb-false, le-leb, lt-leb, cond-true, cond-false, false_from_ne_true, both_ways, cases_eq, cases_lt, cases_order}
use Rattle.scan_laws.specs.Next.{IsNext, next_of, comes_by, HasOneBy, Represents}

-- ---- round the end

-- between p and x; or, where x is before p, from p on or up to x
abbrev pub By : ℕ → ℕ → ℕ → Type 0
By p x y = ((p ≤ y) × (y ≤ x)) ⊎ ((x < p) × ((p ≤ y) ⊎ (y ≤ x)))

pub comes_by-true : (p x y : ℕ) → comes_by p x y ≡ true → By p x y
comes_by-true p x y h = go (nat_le p x) refl h
  where
    go : (b : Bool) → nat_le p x ≡ b → (if b then nat_le p y && nat_le y x else nat_le p y || nat_le y x) ≡ true → By p x y
    go true e h = let a = and_parts (nat_le p y) (nat_le y x) h in inl (leb-true _ _ a.0, leb-true _ _ a.1)
    go false e h = inr (leb-false _ _ e, ⊎_elim (λ (a : nat_le p y ≡ true). inl (leb-true _ _ a)) (λ (b : nat_le y x ≡ true). inr (leb-true _ _ b)) (or_cases (nat_le p y) (nat_le y x) h))

pub comes_by-from : (p x y : ℕ) → By p x y → comes_by p x y ≡ true
comes_by-from p x y (inl r) =
    let low = r.0 in let high = r.1 in
    cond-true (nat_le p x) _ _ (le-leb _ _ (omega (arith, low, high))) ∙ and_from _ _ (le-leb _ _ low) (le-leb _ _ high)
comes_by-from p x y (inr r) =
    cond-false (nat_le p x) _ _ (lt-leb _ _ r.0)
    ∙ ⊎_elim (λ (l : p ≤ y). or_left _ (nat_le y x) (le-leb _ _ l)) (λ (l : y ≤ x). or_right (nat_le p y) _ (le-leb _ _ l)) r.1

-- what comes by x comes by it from a later place too, unless one of the two was passed in between
pub comes_by-later : (p q x y : ℕ) → p ≤ q → (x < p) ⊎ (q ≤ x) → (y < p) ⊎ (q ≤ y) → comes_by p x y ≡ true → comes_by q x y ≡ true
comes_by-later p q x y l a b h = comes_by-from q x y (go a b (comes_by-true p x y h))
  where
    go : (x < p) ⊎ (q ≤ x) → (y < p) ⊎ (q ≤ y) → By p x y → By q x y
    go (inl s) (inl t) (inl r) = let u = r.0 in absurd (omega (arith, t, u))
    go (inl s) (inl t) (inr r) = inr (omega arith, ⊎_elim (λ (u : p ≤ y). absurd (omega (arith, t, u))) (λ (u : y ≤ x). inr u) r.1)
    go (inl s) (inr t) r = inr (omega arith, inl t)
    go (inr s) (inl t) (inl r) = let u = r.0 in absurd (omega (arith, t, u))
    go (inr s) (inl t) (inr r) = let u = r.0 in absurd (omega (arith, l, s, u))
    go (inr s) (inr t) (inl r) = inl (t, r.1)
    go (inr s) (inr t) (inr r) = let u = r.0 in absurd (omega (arith, l, s, u))

-- ---- the least

pub next-same : (test : ℕ → Bool) (p : ℕ) (o q : Option ℕ) → IsNext test p o → IsNext test p q → o ≡ q
next-same test p None None a b = refl
next-same test p None (Some y) a b = absurd (both_ways (test y) (a y b.at_least) b.passes)
next-same test p (Some x) None a b = absurd (both_ways (test x) (b x a.at_least) a.passes)
next-same test p (Some x) (Some y) a b =
    ⊎_elim
    (λ (e : x ≡ y). ap (λ n. Some n) e)
    (λ (ne : (x < y) ⊎ (y < x)).
    ⊎_elim
    (λ (l : x < y). absurd (both_ways (test x) (b.none_before x a.at_least l) a.passes))
    (λ (l : y < x). absurd (both_ways (test y) (a.none_before y b.at_least l) b.passes))
    ne)
    (cases_order x y)

-- a place that fails is passed over
next-over : (test : ℕ → Bool) (p : ℕ) (o : Option ℕ) → test p ≡ false → IsNext test (suc p) o → IsNext test p o
next-over test p None f h =
    λ k low. ⊎_elim (λ (e : k ≡ p). subst (λ i. test i ≡ false) (sym e) f) (λ (ne : k ≡ p → ⊥). h k (omega (arith, ne))) (cases_eq k p)
next-over test p (Some x) f h =
    let l = h.at_least in
    record {
      at_least = omega (arith, l);
      passes = h.passes;
      none_before = λ k low high. ⊎_elim (λ (e : k ≡ p). subst (λ i. test i ≡ false) (sym e) f) (λ (ne : k ≡ p → ⊥). h.none_before k (omega (arith, ne)) high) (cases_eq k p);
    }

-- where none passes after those that are looked at, the next of them is the next of all
pub next_of-is : (test : ℕ → Bool) (p n : ℕ) → ((k : ℕ) → p + n ≤ k → test k ≡ false) → IsNext test p (next_of test p n)
unfolding next_of
next_of-is test p zero h = λ k low. h k (omega arith)
next_of-is test p (suc n) h = go (test p) refl (next_of-is test (suc p) n (λ k low. h k (omega arith)))
  where
    go : (b : Bool) → test p ≡ b → IsNext test (suc p) (next_of test (suc p) n) → IsNext test p (elim b [ true ↦ Some p | false ↦ next_of test (suc p) n ])
    go true e r = record { at_least = omega arith; passes = e; none_before = λ k low high. absurd (omega arith) }
    go false e r = next-over test p (next_of test (suc p) n) e r

-- ---- members

-- no number is ready between p and the first member from p on
none-ready : (members ready : ℕ → Bool) (p k : ℕ) → Represents members ready p → p ≤ k → ((y : ℕ) → p ≤ y → y ≤ k → members y ≡ false) → ready k ≡ false
none-ready members ready p k r low none =
    false_from_ne_true (ready k) (λ t. r.none_is_passed k t (λ y m. false_from_ne_true (comes_by p k y) (λ c. behind y m (comes_by-true p k y c))))
  where
    behind : (y : ℕ) → members y ≡ true → By p k y → ⊥
    behind y m (inl r) = both_ways (members y) (none y r.0 r.1) m
    behind y m (inr r) = let u = r.0 in absurd (omega (arith, low, u))

pub next-seen : (members ready : ℕ → Bool) (p : ℕ) (o : Option ℕ) → Represents members ready p → IsNext members p o → IsNext ready p o
next-seen members ready p None r n = λ k low. none-ready members ready p k r low (λ y l h. n y l)
next-seen members ready p (Some x) r n =
    record {
      at_least = n.at_least;
      passes = r.each_is_ready x n.passes;
      none_before = λ k low high. none-ready members ready p k r low (λ y l h. n.none_before y l (omega (arith, high, h)));
    }

pub none-seen : (members ready : ℕ → Bool) (p : ℕ) → Represents members ready p → ((n : ℕ) → members n ≡ false) → (n : ℕ) → ready n ≡ false
none-seen members ready p r none n = false_from_ne_true (ready n) (λ t. r.none_is_passed n t (λ y m. absurd (both_ways (members y) (none y) m)))

-- a member for each ready number
pub represents-by : (members ready : ℕ → Bool) (p : ℕ) → ((x : ℕ) → members x ≡ true → ready x ≡ true) → ((x : ℕ) → ready x ≡ true → HasOneBy members p x) → Represents members ready p
represents-by members ready p each ones =
    record { each_is_ready = each; none_is_passed = λ x t passed. let o = ones x t in both_ways (comes_by p x o.0) (passed o.0 o.1) o.2 }

-- what does not come after x from p does not from a later place q either, where no member and nothing that is ready lies between
represents-later : (members ready : ℕ → Bool) (p q : ℕ) → p ≤ q → Represents members ready p → ((y : ℕ) → p ≤ y → y < q → members y ≡ false) → Represents members ready q
represents-later members ready p q l r none =
    record {
      each_is_ready = r.each_is_ready;
      none_is_passed = λ x t passed. r.none_is_passed x t (λ y m. false_from_ne_true (comes_by p x y) (λ c. both_ways (comes_by q x y) (passed y m) (comes_by-later p q x y l (apart x (ready_apart x t)) (apart y (member_apart y m)) c)));
    }
  where
    apart : (x : ℕ) → (p ≤ x → x < q → ⊥) → (x < p) ⊎ (q ≤ x)
    apart x not_between =
        ⊎_elim (λ (a : x < p). inl a) (λ (a : p ≤ x). ⊎_elim (λ (b : x < q). absurd (not_between a b)) (λ (b : q ≤ x). inr b) (cases_lt x q)) (cases_lt x p)

    ready_apart : (x : ℕ) → ready x ≡ true → p ≤ x → x < q → ⊥
    ready_apart x t low high = both_ways (ready x) (none-ready members ready p x r low (λ y a b. none y a (omega (arith, high, b)))) t

    member_apart : (y : ℕ) → members y ≡ true → p ≤ y → y < q → ⊥
    member_apart y m low high = both_ways (members y) (none y low high) m

-- from the next member on
pub represents-moved : (members ready : ℕ → Bool) (p x : ℕ) → Represents members ready p → IsNext members p (Some x) → Represents members ready x
represents-moved members ready p x r n = represents-later members ready p x n.at_least r n.none_before

-- where none is left, from the beginning
pub represents-turned : (members ready : ℕ → Bool) (p : ℕ) → Represents members ready p → IsNext members p None → Represents members ready 0
represents-turned members ready p r n =
    record {
      each_is_ready = r.each_is_ready;
      none_is_passed = λ x t passed. r.none_is_passed x t (λ y m. false_from_ne_true (comes_by p x y) (λ c. both_ways (comes_by 0 x y) (passed y m) (comes_by-from 0 x y (inl (omega arith, below x y m (comes_by-true p x y c))))));
    }
  where
    below : (x y : ℕ) → members y ≡ true → By p x y → y ≤ x
    below x y m (inl r) = r.1
    below x y m (inr r) = ⊎_elim (λ (l : p ≤ y). absurd (both_ways (members y) (n y l) m)) (λ (l : y ≤ x). l) r.1
