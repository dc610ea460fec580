-- Searches and filters over ranges of numbers.
use Rattle.std.proofs.Common.{◌≡◌, ℕ, zero, suc, ◌+◌, ◌-◌, ◌<◌, ◌≤◌, Bool, true, false, cond, List, [], ◌∷◌, ◌++◌, length, get_or, Some, refl, ap, ◌∙◌, sym, subst, arith, ⊎_elim}
use Rattle.std.specs.Prelude.{filter, unwrap_or}
use Rattle.std.specs.List.{find, range_with_len}
use Rattle.std.proofs.lemmas.Bool.{cases_eq, false≢true}

-- ---- the first that passes, or the number after them all

-- it is among them or that number, nothing before it passes, and it passes itself
pub record IsFirst (p : ℕ → Bool) (s len f : ℕ) : Type 0 where
  pub low : s ≤ f
  pub high : f ≤ s + len
  pub before : (k : ℕ) → s ≤ k → k < f → p k ≡ false
  pub here : f < s + len → p f ≡ true

pub first_found : (p : ℕ → Bool) (s len : ℕ) → IsFirst p s len (unwrap_or (find p (range_with_len s len)) (s + len))
first_found p s zero = record { low = omega arith; high = omega arith; before = λ k low less. absurd (omega (arith, low, less)); here = λ less. absurd (omega (arith, less)) }
first_found p s (suc len) = by (p s) refl (first_found p (s + 1) len)
  where
    by : (b : Bool) → p s ≡ b → IsFirst p (s + 1) len (unwrap_or (find p (range_with_len (s + 1) len)) (s + 1 + len))
        → IsFirst p s (suc len) (unwrap_or (cond b (Some s) (find p (range_with_len (s + 1) len))) (s + suc len))
    by true e r = record { low = omega arith; high = omega arith; before = λ k low less. absurd (omega (arith, low, less)); here = λ less. e }
    by false e r =
        let same : s + 1 + len ≡ s + suc len = omega arith in
        let r' : IsFirst p (s + 1) len (unwrap_or (find p (range_with_len (s + 1) len)) (s + suc len)) =
        subst (λ (d : ℕ). IsFirst p (s + 1) len (unwrap_or (find p (range_with_len (s + 1) len)) d)) same r in
        let low = r'.low in
        let high = r'.high in
        record {
          low = omega (arith, low);
          high = omega (arith, high);
          before = λ k from less. ⊎_elim
              (λ (eq : k ≡ s). subst (λ (i : ℕ). p i ≡ false) (sym eq) e)
              (λ (ne : k ≡ s → ⊥). r'.before k (omega (arith, from, ne)) less)
              (cases_eq k s);
          here = λ less. r'.here (omega (arith, less));
        }

-- there is just one such number
pub first_only : (p : ℕ → Bool) (s len f g : ℕ) → IsFirst p s len f → IsFirst p s len g → f ≡ g
first_only p s len f g a b =
    ⊎_elim
    (λ (e : f ≡ g). e)
    (λ (ne : f ≡ g → ⊥).
    let af = a.high in
    let al = a.low in
    let bf = b.high in
    let bl = b.low in
    let not_less : f < g → ⊥ = λ (less : f < g). false≢true (sym (b.before f al less) ∙ a.here (omega (arith, less, bf))) in
    let not_more : g < f → ⊥ = λ (less : g < f). false≢true (sym (a.before g bl less) ∙ b.here (omega (arith, less, af))) in
    omega (arith, ne, not_less, not_more))
    (cases_eq f g)

-- ---- filters

filter_next : (p : ℕ → Bool) (s n : ℕ) → filter p (range_with_len s (suc n)) ≡ filter p (range_with_len s n) ++ cond (p (s + n)) ((s + n) ∷ []) []
filter_next p s zero = let e : s + 0 ≡ s = omega arith in ap (λ (k : ℕ). cond (p k) (k ∷ []) []) (sym e)
filter_next p s (suc n) = by (p s) (filter_next p (s + 1) n)
  where
    same : s + 1 + n ≡ s + suc n
    same = omega arith

    by : (b : Bool) → filter p (range_with_len (s + 1) (suc n)) ≡ filter p (range_with_len (s + 1) n) ++ cond (p (s + 1 + n)) ((s + 1 + n) ∷ []) []
        → cond b (s ∷ filter p (range_with_len (s + 1) (suc n))) (filter p (range_with_len (s + 1) (suc n)))
        ≡ cond b (s ∷ filter p (range_with_len (s + 1) n)) (filter p (range_with_len (s + 1) n)) ++ cond (p (s + suc n)) ((s + suc n) ∷ []) []
    by true r = ap (λ (xs : List ℕ). s ∷ xs) (r ∙ ap (λ (k : ℕ). filter p (range_with_len (s + 1) n) ++ cond (p k) (k ∷ []) []) same)
    by false r = r ∙ ap (λ (k : ℕ). filter p (range_with_len (s + 1) n) ++ cond (p k) (k ∷ []) []) same

-- one number more
pub filter_more : (p : ℕ → Bool) (s k : ℕ) → s ≤ k → filter p (range_with_len s (k + 1 - s)) ≡ filter p (range_with_len s (k - s)) ++ cond (p k) (k ∷ []) []
filter_more p s k low =
    let e : k + 1 - s ≡ suc (k - s) = omega (arith, low) in
    let at : s + (k - s) ≡ k = omega (arith, low) in
    ap (λ (n : ℕ). filter p (range_with_len s n)) e ∙ filter_next p s (k - s) ∙ ap (λ (n : ℕ). filter p (range_with_len s (k - s)) ++ cond (p n) (n ∷ []) []) at

none_pass : (p : ℕ → Bool) (s n : ℕ) → ((k : ℕ) → s ≤ k → k < s + n → p k ≡ false) → filter p (range_with_len s n) ≡ []
none_pass p s zero h = refl
none_pass p s (suc n) h = ap (λ b. cond b (s ∷ filter p (range_with_len (s + 1) n)) (filter p (range_with_len (s + 1) n))) (h s (omega arith) (omega arith)) ∙ none_pass p (s + 1) n (λ k low high. h k (omega (arith, low)) (omega (arith, high)))

-- two tests that agree on the first numbers, where the one fails on the others
front_passes : (p q : ℕ → Bool) (s b c : ℕ) → ((k : ℕ) → s ≤ k → k < s + b → p k ≡ q k) → ((k : ℕ) → s + b ≤ k → k < s + b + c → p k ≡ false)
    → filter p (range_with_len s (b + c)) ≡ filter q (range_with_len s b)
front_passes p q s zero c same after =
    let e : 0 + c ≡ c = omega arith in
    ap (λ (n : ℕ). filter p (range_with_len s n)) e ∙ none_pass p s c (λ k low high. after k (omega (arith, low)) (omega (arith, high)))
front_passes p q s (suc b) c same after =
    let e : suc b + c ≡ suc (b + c) = omega arith in
    let rest = front_passes p q (s + 1) b c (λ k low high. same k (omega (arith, low)) (omega (arith, high))) (λ k low high. after k (omega (arith, low)) (omega (arith, high))) in
    ap (λ (n : ℕ). filter p (range_with_len s n)) e
    ∙ ap (λ (xs : List ℕ). cond (p s) (s ∷ xs) xs) rest
    ∙ ap (λ t. cond t (s ∷ filter q (range_with_len (s + 1) b)) (filter q (range_with_len (s + 1) b))) (same s (omega arith) (omega arith))

-- and where it fails on a first part too
pub middle_passes : (p q : ℕ → Bool) (s a b c : ℕ) → ((k : ℕ) → s ≤ k → k < s + a → p k ≡ false) → ((k : ℕ) → s + a ≤ k → k < s + a + b → p k ≡ q k)
    → ((k : ℕ) → s + a + b ≤ k → k < s + a + b + c → p k ≡ false)
    → filter p (range_with_len s (a + b + c)) ≡ filter q (range_with_len (s + a) b)
middle_passes p q s zero b c before same after =
    let e : 0 + b + c ≡ b + c = omega arith in
    let f : s + 0 ≡ s = omega arith in
    ap (λ (n : ℕ). filter p (range_with_len s n)) e
    ∙ front_passes p q s b c (λ k low high. same k (omega (arith, low)) (omega (arith, high))) (λ k low high. after k (omega (arith, low)) (omega (arith, high)))
    ∙ ap (λ (n : ℕ). filter q (range_with_len n b)) (sym f)
middle_passes p q s (suc a) b c before same after =
    let e : suc a + b + c ≡ suc (a + b + c) = omega arith in
    let f : s + 1 + a ≡ s + suc a = omega arith in
    ap (λ (n : ℕ). filter p (range_with_len s n)) e
    ∙ ap (λ t. cond t (s ∷ filter p (range_with_len (s + 1) (a + b + c))) (filter p (range_with_len (s + 1) (a + b + c)))) (before s (omega arith) (omega arith))
    ∙ middle_passes p q (s + 1) a b c (λ k low high. before k (omega (arith, low)) (omega (arith, high))) (λ k low high. same k (omega (arith, low)) (omega (arith, high)))
    (λ k low high. after k (omega (arith, low)) (omega (arith, high)))
    ∙ ap (λ (n : ℕ). filter q (range_with_len n b)) f

-- ---- what stands in a filter

-- the number passes and is in the range, and each number before it in the range that passes stands before it
pub record StandsAt (p : ℕ → Bool) (s len : ℕ) (xs : List ℕ) (at : ℕ) : Type 0 where
  pub low : s ≤ get_or xs at 0
  pub high : get_or xs at 0 < s + len
  pub passes : p (get_or xs at 0) ≡ true
  pub before : (i : ℕ) → s ≤ i → i < get_or xs at 0 → p i ≡ true → (j : ℕ) × (j < at) × (get_or xs j 0 ≡ i)

pub stands_at : (p : ℕ → Bool) (s len at : ℕ) → at < length (filter p (range_with_len s len)) → StandsAt p s len (filter p (range_with_len s len)) at
stands_at p s zero at within = absurd (omega arith)
stands_at p s (suc len) at within = by (λ k w. stands_at p (s + 1) len k w) (p s) refl at within
  where
    rest : List ℕ
    rest = filter p (range_with_len (s + 1) len)

    by : ((k : ℕ) → k < length rest → StandsAt p (s + 1) len rest k) → (b : Bool) → p s ≡ b → (at : ℕ) → at < length (cond b (s ∷ rest) rest) → StandsAt p s (suc len) (cond b (s ∷ rest) rest) at
    by more true e zero w = record { low = omega arith; high = omega arith; passes = e; before = λ i low less t. absurd (omega (arith, low, less)) }
    by more true e (suc k) w =
        let r = more k (omega (arith, w)) in
        let low = r.low in
        let high = r.high in
        record {
          low = omega (arith, low);
          high = omega (arith, high);
          passes = r.passes;
          before = λ i from less t. ⊎_elim
              (λ (eq : i ≡ s). (0, omega arith, sym eq))
              (λ (ne : i ≡ s → ⊥). let j = r.before i (omega (arith, from, ne)) less t in (suc j.0, omega (arith, j.1), j.2))
              (cases_eq i s);
        }
    by more false e k w =
        let r = more k w in
        let low = r.low in
        let high = r.high in
        record {
          low = omega (arith, low);
          high = omega (arith, high);
          passes = r.passes;
          before = λ i from less t. ⊎_elim
              (λ (eq : i ≡ s). absurd (false≢true (sym e ∙ subst (λ (n : ℕ). p n ≡ true) eq t)))
              (λ (ne : i ≡ s → ⊥). r.before i (omega (arith, from, ne)) less t)
              (cases_eq i s);
        }

-- what passes stands somewhere
pub stands_in : (p : ℕ → Bool) (s len i : ℕ) → s ≤ i → i < s + len → p i ≡ true → (j : ℕ) × (j < length (filter p (range_with_len s len))) × (get_or (filter p (range_with_len s len)) j 0 ≡ i)
stands_in p s zero i low high t = absurd (omega (arith, low, high))
stands_in p s (suc len) i low high t = by (λ above. stands_in p (s + 1) len i above (omega (arith, high)) t) (p s) refl
  where
    rest : List ℕ
    rest = filter p (range_with_len (s + 1) len)

    by : (s + 1 ≤ i → (j : ℕ) × (j < length rest) × (get_or rest j 0 ≡ i)) → (b : Bool) → p s ≡ b → (j : ℕ) × (j < length (cond b (s ∷ rest) rest)) × (get_or (cond b (s ∷ rest) rest) j 0 ≡ i)
    by more true e = ⊎_elim
        (λ (eq : i ≡ s). (0, omega arith, sym eq))
        (λ (ne : i ≡ s → ⊥). let j = more (omega (arith, low, ne)) in (suc j.0, omega (arith, j.1), j.2))
        (cases_eq i s)
    by more false e = ⊎_elim
        (λ (eq : i ≡ s). absurd (false≢true (sym e ∙ subst (λ (n : ℕ). p n ≡ true) eq t)))
        (λ (ne : i ≡ s → ⊥). more (omega (arith, low, ne)))
        (cases_eq i s)
