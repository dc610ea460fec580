-- Runs whose steps agree on what their histories keep to come out alike.
use Rattle.std.proofs.Common.{◌≡◌, ◌∙◌, ℕ, zero, suc, ◌+◌, ◌<◌, ◌≤◌, arith, Bool, true, false, refl, ap}
use Rattle.commit_journal.specs.Line.{History}
use Rattle.machine.specs.Orders.Order.{one_scan, until}

pub scan_keeps : (Q : History → Type 0) (g : History → ℕ → History) (J : History) → Q J → ((K : History) (n : ℕ) → Q K → Q (g K n)) → (n : ℕ) → Q (one_scan g J n)
unfolding one_scan
scan_keeps Q g J q keeps zero = q
scan_keeps Q g J q keeps (suc n) = keeps (one_scan g J n) n (scan_keeps Q g J q keeps n)

pub scan_alike : (Q : History → Type 0) (f g : History → ℕ → History) (J : History) (N : ℕ) → Q J → ((K : History) (n : ℕ) → n < N → Q K → f K n ≡ g K n) → ((K : History) (n : ℕ) → Q K → Q (g K n)) →
    one_scan f J N ≡ one_scan g J N
unfolding one_scan
scan_alike Q f g J zero q same keeps = refl
scan_alike Q f g J (suc n) q same keeps =
    ap (λ K. f K n) (scan_alike Q f g J n q (λ K i l. same K i (omega arith)) keeps) ∙ same (one_scan g J n) n (omega arith) (scan_keeps Q g J q keeps n)

-- steps that change nothing
pub scan_idle : (f : History → ℕ → History) (J : History) (N : ℕ) → ((n : ℕ) → n < N → f J n ≡ J) → one_scan f J N ≡ J
unfolding one_scan
scan_idle f J zero idle = refl
scan_idle f J (suc n) idle = ap (λ K. f K n) (scan_idle f J n (λ i l. idle i (omega arith))) ∙ idle n (omega arith)

one_more : (f : History → ℕ → History) (J : History) (a j : ℕ) → one_scan f J (a + suc j) ≡ f (one_scan f J (a + j)) (a + j)
unfolding one_scan
one_more f J a j = let e : a + suc j ≡ suc (a + j) = omega arith in ap (one_scan f J) e

none_more : (f : History → ℕ → History) (J : History) (a : ℕ) → one_scan f J (a + 0) ≡ one_scan f J a
none_more f J a = let e : a + 0 ≡ a = omega arith in ap (one_scan f J) e

-- the steps from a on change nothing
pub scan_front : (Q : History → Type 0) (f g : History → ℕ → History) (J : History) (a j : ℕ) → Q J → ((K : History) (n : ℕ) → n < a → Q K → f K n ≡ g K n) → ((K : History) (n : ℕ) → Q K → Q (g K n)) →
    ((K : History) (n : ℕ) → a ≤ n → n < a + j → Q K → f K n ≡ K) → one_scan f J (a + j) ≡ one_scan g J a
scan_front Q f g J a zero q same keeps idle = none_more f J a ∙ scan_alike Q f g J a q same keeps
scan_front Q f g J a (suc j) q same keeps idle =
    let before : one_scan f J (a + j) ≡ one_scan g J a = scan_front Q f g J a j q same keeps (λ K n l m. idle K n l (omega arith)) in
    one_more f J a j ∙ ap (λ K. f K (a + j)) before ∙ idle (one_scan g J a) (a + j) (omega arith) (omega arith) (scan_keeps Q g J q keeps a)

-- one turn
pub until_turn : (stop : History → Bool) (step : History → History) (fuel : ℕ) (J : History) → stop J ≡ false → until stop step (suc fuel) J ≡ until stop step fuel (step J)
unfolding until
until_turn stop step fuel J e = λ i. elim (e i) as (λ _. History) [ true ↦ J | false ↦ until stop step fuel (step J) ]

pub until_alike : (Q : History → Type 0) (s t : History → Bool) (f g : History → History) → ((K : History) → Q K → s K ≡ t K) → ((K : History) → Q K → t K ≡ false → f K ≡ g K) → ((K : History) → Q K → Q (g K)) →
    (fuel : ℕ) (J : History) → Q J → until s f fuel J ≡ until t g fuel J
unfolding until
until_alike Q s t f g same_stop same_step keeps zero J q = refl
until_alike Q s t f g same_stop same_step keeps (suc fuel) J q =
    (λ i. elim (same_stop J q i) as (λ _. History) [ true ↦ J | false ↦ until s f fuel (f J) ])
    ∙ here (t J) refl (λ e. ap (until s f fuel) (same_step J q e) ∙ until_alike Q s t f g same_stop same_step keeps fuel (g J) (keeps J q))
  where
    here : (b : Bool) → t J ≡ b → (t J ≡ false → until s f fuel (f J) ≡ until t g fuel (g J)) →
        elim b as (λ _. History) [ true ↦ J | false ↦ until s f fuel (f J) ] ≡ elim b as (λ _. History) [ true ↦ J | false ↦ until t g fuel (g J) ]
    here true e later = refl
    here false e later = later e

pub until_keeps : (Q : History → Type 0) (t : History → Bool) (g : History → History) → ((K : History) → Q K → t K ≡ false → Q (g K)) → (fuel : ℕ) (J : History) → Q J → Q (until t g fuel J)
unfolding until
until_keeps Q t g keeps zero J q = q
until_keeps Q t g keeps (suc fuel) J q = here (t J) refl (λ e. until_keeps Q t g keeps fuel (g J) (keeps J q e))
  where
    here : (b : Bool) → t J ≡ b → (t J ≡ false → Q (until t g fuel (g J))) → Q (elim b as (λ _. History) [ true ↦ J | false ↦ until t g fuel (g J) ])
    here true e later = q
    here false e later = later e
