-- Sums over choices and over numbers.
use Rattle.std.proofs.Common.{◌≡◌, ◌∙◌, ℕ, zero, suc, ◌+◌, ◌*◌, ◌≤◌, ◌<◌, Bool, true, false, List, [], ◌∷◌, refl, sym, ap, subst, arith, add-one, cond, if◌then◌else◌}
use Rattle.std.specs.Prelude.{filter, sum_by}
use Rattle.std.specs.List.{range_with_len}
use Rattle.std.proofs.lemmas.List.Sums.{sum_by-cons}
use Rattle.scan_laws.specs.Numbers.{before}

-- what counts where a test passes
pub sum_chosen : {X : Type 0} (p : X → Bool) (f : X → ℕ) (xs : List X) → sum_by (λ x. if p x then f x else 0) xs ≡ sum_by f (filter p xs)
sum_chosen p f [] = refl
sum_chosen p f (x ∷ xs) = sum_by-cons (λ x. if p x then f x else 0) x xs ∙ here (p x) (sum_chosen p f xs)
  where
    here : (b : Bool) → sum_by (λ x. if p x then f x else 0) xs ≡ sum_by f (filter p xs) →
        (if b then f x else 0) + sum_by (λ x. if p x then f x else 0) xs ≡ sum_by f (cond b (x ∷ filter p xs) (filter p xs))
    here true h = let c : sum_by f (x ∷ filter p xs) ≡ f x + sum_by f (filter p xs) = sum_by-cons f x (filter p xs) in omega (arith, c, h)
    here false h = omega (arith, h)

-- ---- over ranges

-- the first number, and the others
first_of : (f : ℕ → ℕ) (s len : ℕ) → sum_by f (range_with_len s (suc len)) ≡ f s + sum_by f (range_with_len (s + 1) len)
first_of f s len = sum_by-cons f s (range_with_len (s + 1) len)

-- one number more
sum_one_more : (f : ℕ → ℕ) (s k : ℕ) → sum_by f (range_with_len s (suc k)) ≡ sum_by f (range_with_len s k) + f (s + k)
sum_one_more f s zero =
    let a : sum_by f (s ∷ []) ≡ f s + sum_by f [] = sum_by-cons f s [] in
    let e : s ≡ s + 0 = omega arith in
    let b : f s ≡ f (s + 0) = ap f e in
    omega (arith, a, b)
sum_one_more f s (suc k) =
    let a : sum_by f (range_with_len s (suc (suc k))) ≡ f s + sum_by f (range_with_len (s + 1) (suc k)) = first_of f s (suc k) in
    let b : sum_by f (range_with_len s (suc k)) ≡ f s + sum_by f (range_with_len (s + 1) k) = first_of f s k in
    let c : sum_by f (range_with_len (s + 1) (suc k)) ≡ sum_by f (range_with_len (s + 1) k) + f ((s + 1) + k) = sum_one_more f (s + 1) k in
    let e : (s + 1) + k ≡ s + suc k = omega arith in
    let d : f ((s + 1) + k) ≡ f (s + suc k) = ap f e in
    omega (arith, a, b, c, d)

pub sum_more : (f : ℕ → ℕ) (s k j sum part after : ℕ) → s + k ≡ j → sum ≡ sum_by f (range_with_len s k) → part ≡ f j → after ≡ sum + part → after ≡ sum_by f (range_with_len s (k + 1))
sum_more f s k j sum part after at h p a =
    a ∙ (λ i. h i + (p ∙ ap f (sym at)) i) ∙ sym (sum_one_more f s k) ∙ ap (λ len. sum_by f (range_with_len s len)) (sym (add-one k))

-- what is the same at each number of the range
pub sum_within : (f g : ℕ → ℕ) (s len : ℕ) → ((j : ℕ) → s ≤ j → j < s + len → f j ≡ g j) → sum_by f (range_with_len s len) ≡ sum_by g (range_with_len s len)
sum_within f g s zero h = refl
sum_within f g s (suc len) h =
    let a : sum_by f (range_with_len s (suc len)) ≡ f s + sum_by f (range_with_len (s + 1) len) = first_of f s len in
    let b : sum_by g (range_with_len s (suc len)) ≡ g s + sum_by g (range_with_len (s + 1) len) = first_of g s len in
    let c : f s ≡ g s = h s (omega arith) (omega arith) in
    let d : sum_by f (range_with_len (s + 1) len) ≡ sum_by g (range_with_len (s + 1) len) = sum_within f g (s + 1) len (λ j low high. h j (omega (arith, low)) (omega (arith, high))) in
    omega (arith, a, b, c, d)

-- what is more at one number of the range, and the same at the others
pub sum_less : (f g : ℕ → ℕ) (v k s i len : ℕ) → k ≡ s + i → i < len → f k ≡ g k + v → ((j : ℕ) → (j ≡ k → ⊥) → f j ≡ g j) → sum_by f (range_with_len s len) ≡ sum_by g (range_with_len s len) + v
sum_less f g v k s i zero e l here h = absurd (omega (arith, l))
sum_less f g v k s zero (suc len) e l here h =
    let a : sum_by f (range_with_len s (suc len)) ≡ f s + sum_by f (range_with_len (s + 1) len) = first_of f s len in
    let b : sum_by g (range_with_len s (suc len)) ≡ g s + sum_by g (range_with_len (s + 1) len) = first_of g s len in
    let at : k ≡ s = omega (arith, e) in
    let c : f s ≡ g s + v = subst (λ (j : ℕ). f j ≡ g j + v) at here in
    let d : sum_by f (range_with_len (s + 1) len) ≡ sum_by g (range_with_len (s + 1) len) = sum_within f g (s + 1) len (λ j low high. h j (λ q. omega (arith, at, low, q))) in
    omega (arith, a, b, c, d)
sum_less f g v k s (suc i) (suc len) e l here h =
    let a : sum_by f (range_with_len s (suc len)) ≡ f s + sum_by f (range_with_len (s + 1) len) = first_of f s len in
    let b : sum_by g (range_with_len s (suc len)) ≡ g s + sum_by g (range_with_len (s + 1) len) = first_of g s len in
    let c : f s ≡ g s = h s (λ q. omega (arith, e, q)) in
    let d : sum_by f (range_with_len (s + 1) len) ≡ sum_by g (range_with_len (s + 1) len) + v = sum_less f g v k (s + 1) i len (omega (arith, e)) (omega (arith, l)) here h in
    omega (arith, a, b, c, d)

pub sum_of_zeros : (f : ℕ → ℕ) (s len : ℕ) → ((j : ℕ) → f j ≡ 0) → sum_by f (range_with_len s len) ≡ 0
sum_of_zeros f s zero h = refl
sum_of_zeros f s (suc len) h =
    let a : sum_by f (range_with_len s (suc len)) ≡ f s + sum_by f (range_with_len (s + 1) len) = first_of f s len in
    let b : f s ≡ 0 = h s in
    let c : sum_by f (range_with_len (s + 1) len) ≡ 0 = sum_of_zeros f (s + 1) len h in
    omega (arith, a, b, c)

pub sum_low : (f : ℕ → ℕ) (most s len : ℕ) → ((j : ℕ) → f j ≤ most) → sum_by f (range_with_len s len) ≤ most * len
sum_low f most s zero h = omega arith
sum_low f most s (suc len) h =
    let a : sum_by f (range_with_len s (suc len)) ≡ f s + sum_by f (range_with_len (s + 1) len) = first_of f s len in
    let b : f s ≤ most = h s in
    let c : sum_by f (range_with_len (s + 1) len) ≤ most * len = sum_low f most (s + 1) len h in
    let d : most * suc len ≡ most + most * len = omega arith in
    omega (arith, a, b, c, d)

-- ---- group by group

-- from another number on
pub sum_from : (f : ℕ → ℕ) (b s len : ℕ) → sum_by f (range_with_len (b + s) len) ≡ sum_by (λ k. f (b + k)) (range_with_len s len)
sum_from f b s zero = refl
sum_from f b s (suc len) =
    let a : sum_by f (range_with_len (b + s) (suc len)) ≡ f (b + s) + sum_by f (range_with_len (b + s + 1) len) = first_of f (b + s) len in
    let c : sum_by (λ k. f (b + k)) (range_with_len s (suc len)) ≡ f (b + s) + sum_by (λ k. f (b + k)) (range_with_len (s + 1) len) = first_of (λ k. f (b + k)) s len in
    let e : b + s + 1 ≡ b + (s + 1) = omega arith in
    let g : sum_by f (range_with_len (b + s + 1) len) ≡ sum_by f (range_with_len (b + (s + 1)) len) = ap (λ at. sum_by f (range_with_len at len)) e in
    let d : sum_by f (range_with_len (b + (s + 1)) len) ≡ sum_by (λ k. f (b + k)) (range_with_len (s + 1) len) = sum_from f b (s + 1) len in
    omega (arith, a, c, g, d)

-- in two parts
sum_parts : (f : ℕ → ℕ) (s a b : ℕ) → sum_by f (range_with_len s (a + b)) ≡ sum_by f (range_with_len s a) + sum_by f (range_with_len (s + a) b)
sum_parts f s a zero =
    let e : a + 0 ≡ a = omega arith in
    let c : sum_by f (range_with_len s (a + 0)) ≡ sum_by f (range_with_len s a) = ap (λ len. sum_by f (range_with_len s len)) e in
    let d : sum_by f (range_with_len (s + a) 0) ≡ 0 = refl in
    omega (arith, c, d)
sum_parts f s a (suc b) =
    let e : a + suc b ≡ suc (a + b) = omega arith in
    let at : s + (a + b) ≡ s + a + b = omega arith in
    let c : sum_by f (range_with_len s (a + suc b)) ≡ sum_by f (range_with_len s (suc (a + b))) = ap (λ len. sum_by f (range_with_len s len)) e in
    let d : sum_by f (range_with_len s (suc (a + b))) ≡ sum_by f (range_with_len s (a + b)) + f (s + (a + b)) = sum_one_more f s (a + b) in
    let g : f (s + (a + b)) ≡ f (s + a + b) = ap f at in
    let h : sum_by f (range_with_len (s + a) (suc b)) ≡ sum_by f (range_with_len (s + a) b) + f (s + a + b) = sum_one_more f (s + a) b in
    let i : sum_by f (range_with_len s (a + b)) ≡ sum_by f (range_with_len s a) + sum_by f (range_with_len (s + a) b) = sum_parts f s a b in
    omega (arith, c, d, g, h, i)

pub sum_by_groups : (size f : ℕ → ℕ) (n : ℕ) → sum_by f (range_with_len 0 (before size n)) ≡ sum_by (λ m. sum_by (λ k. f (before size m + k)) (range_with_len 0 (size m))) (range_with_len 0 n)
unfolding before
sum_by_groups size f zero = refl
sum_by_groups size f (suc n) =
    let group : ℕ → ℕ = λ m. sum_by (λ k. f (before size m + k)) (range_with_len 0 (size m)) in
    let a : sum_by f (range_with_len 0 (before size n + size n)) ≡ sum_by f (range_with_len 0 (before size n)) + sum_by f (range_with_len (0 + before size n) (size n)) = sum_parts f 0 (before size n) (size n) in
    let at : 0 + before size n ≡ before size n + 0 = omega arith in
    let b : sum_by f (range_with_len (0 + before size n) (size n)) ≡ group n = ap (λ s. sum_by f (range_with_len s (size n))) at ∙ sum_from f (before size n) 0 (size n) in
    let c : sum_by f (range_with_len 0 (before size n)) ≡ sum_by group (range_with_len 0 n) = sum_by_groups size f n in
    let next : 0 + n ≡ n = omega arith in
    let d : sum_by group (range_with_len 0 (suc n)) ≡ sum_by group (range_with_len 0 n) + group (0 + n) = sum_one_more group 0 n in
    let e : group (0 + n) ≡ group n = ap group next in
    omega (arith, a, b, c, d, e)
