-- One number among others whose sum is bounded, and the sum of the openings.
use Rattle.std.proofs.Common.{◌≡◌, ℕ, zero, suc, ◌+◌, ◌≤◌, ◌<◌, ◌^◌, true, List, [], ◌∷◌, refl, sym, ap, subst, arith, length}
use Rattle.std.specs.Prelude.{sum_by, slice_get}
use Rattle.std.specs.Option.{option_map_or}
use Rattle.std.proofs.lemmas.Bool.{leb-true, and_parts}
use Rattle.std.proofs.lemmas.List.Sums.{sum_by-cons}
use Rattle.cash_amounts.specs.declared.records.AccountRecord.{AccountRecord}
use Rattle.cash_amounts.specs.SoundSetup.{sound_setup, is_within_limits}
use Rattle.batch_records.specs.DayRecord.{Day}
use Rattle.batch_records.specs.Sound.{is_sound}
use Rattle.std.specs.List.{range_with_len}
use Rattle.machine.specs.Records.Setup.{account_numbers, opening}
use Rattle.settlement_laws.proofs.Base.SoundParts.{sound_parts}

-- where none of g is above that of f, the sums aren't
pub sums_below : {X : Type 0} (f g : X → ℕ) → ((x : X) → g x ≤ f x) → (xs : List X) → sum_by g xs ≤ sum_by f xs
sums_below f g h [] = omega arith
sums_below f g h (x ∷ xs) =
    let k : sum_by g xs ≤ sum_by f xs = sums_below f g h xs in
    let a : g x ≤ f x = h x in
    let b : sum_by f (x ∷ xs) ≡ f x + sum_by f xs = sum_by-cons f x xs in
    let c : sum_by g (x ∷ xs) ≡ g x + sum_by g xs = sum_by-cons g x xs in
    omega arith

-- and what one of f has above that of g, the sum has
pub one_of_all : {X : Type 0} (f g : ℕ → ℕ) → ((a : ℕ) → g a ≤ f a) → (a s j : ℕ) (xs : List X) → a ≡ s + j → j < length xs → f a + sum_by g (range_with_len s (length xs)) ≤ g a + sum_by f (range_with_len s (length xs))
one_of_all f g h a s j [] e l = absurd (omega arith)
one_of_all f g h a s zero (x ∷ xs) e l =
    let k : sum_by g (range_with_len (s + 1) (length xs)) ≤ sum_by f (range_with_len (s + 1) (length xs)) = sums_below f g h (range_with_len (s + 1) (length xs)) in
    let b : sum_by f (s ∷ range_with_len (s + 1) (length xs)) ≡ f s + sum_by f (range_with_len (s + 1) (length xs)) = sum_by-cons f s (range_with_len (s + 1) (length xs)) in
    let c : sum_by g (s ∷ range_with_len (s + 1) (length xs)) ≡ g s + sum_by g (range_with_len (s + 1) (length xs)) = sum_by-cons g s (range_with_len (s + 1) (length xs)) in
    let q : s ≡ a = omega arith in
    let u : f s ≡ f a = ap f q in
    let v : g s ≡ g a = ap g q in
    omega arith
one_of_all f g h a s (suc j) (x ∷ xs) e l =
    let k : f a + sum_by g (range_with_len (s + 1) (length xs)) ≤ g a + sum_by f (range_with_len (s + 1) (length xs)) = one_of_all f g h a (s + 1) j xs (omega arith) (omega arith) in
    let d : g s ≤ f s = h s in
    let b : sum_by f (s ∷ range_with_len (s + 1) (length xs)) ≡ f s + sum_by f (range_with_len (s + 1) (length xs)) = sum_by-cons f s (range_with_len (s + 1) (length xs)) in
    let c : sum_by g (s ∷ range_with_len (s + 1) (length xs)) ≡ g s + sum_by g (range_with_len (s + 1) (length xs)) = sum_by-cons g s (range_with_len (s + 1) (length xs)) in
    omega arith

-- ---- a sum by number is the sum by item

sum_by_number : {X : Type 0} (f : X → ℕ) (h : ℕ → ℕ) (s : ℕ) (xs : List X) → ((a j : ℕ) → a ≡ s + j → h a ≡ option_map_or f (slice_get xs j) 0) → sum_by h (range_with_len s (length xs)) ≡ sum_by f xs
sum_by_number f h s [] e = refl
sum_by_number f h s (x ∷ xs) e =
    let k : sum_by h (range_with_len (s + 1) (length xs)) ≡ sum_by f xs = sum_by_number f h (s + 1) xs (λ a j q. e a (suc j) (omega arith)) in
    let a : h s ≡ f x = e s 0 (omega arith) in
    let b : sum_by h (s ∷ range_with_len (s + 1) (length xs)) ≡ h s + sum_by h (range_with_len (s + 1) (length xs)) = sum_by-cons h s (range_with_len (s + 1) (length xs)) in
    let c : sum_by f (x ∷ xs) ≡ f x + sum_by f xs = sum_by-cons f x xs in
    omega arith

openings_are : (day : Day) → sum_by (opening day) (account_numbers day) ≡ sum_by (λ (r : AccountRecord). r.opening) day.accounts
openings_are day = sum_by_number (λ (r : AccountRecord). r.opening) (opening day) 1 day.accounts at
  where
    at : (a j : ℕ) → a ≡ 1 + j → opening day a ≡ option_map_or (λ (r : AccountRecord). r.opening) (slice_get day.accounts j) 0
    at a j e = let q : a ≡ suc j = omega arith in ap (opening day) q

pub openings_within : (day : Day) → is_sound day ≡ true → sum_by (opening day) (account_numbers day) ≤ 10 ^ 18
openings_within day h = subst (λ x. x ≤ 10 ^ 18) (sym (openings_are day)) (leb-true (sum_by (λ (r : AccountRecord). r.opening) day.accounts) (10 ^ 18) (and_parts _ _ limits).1)
  where
    setup_is : sound_setup day.accounts day.systems ≡ true
    setup_is = (sound_parts day h).setup

    limits : is_within_limits day.accounts day.systems ≡ true
    limits = (and_parts _ (is_within_limits day.accounts day.systems) setup_is).1
