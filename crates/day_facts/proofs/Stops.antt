-- How many stops a time has reached is where it stands among them, since they rise.
use Rattle.std.proofs.Common.{◌≡◌, ℕ, zero, suc, ◌+◌, ◌≤◌, ◌<◌, Bool, true, false, List, [], ◌∷◌, length, get_or, ap, arith, if◌then◌else◌}
use Rattle.std.specs.Prelude.{count_by, nat_lt}
use Rattle.std.proofs.lemmas.Bool.{and_parts, ltb-true}
use Rattle.std.proofs.lemmas.List.Sums.{sum_by-cons}
use Rattle.batch_records.specs.Sound.{stops_rise}

stop_low : (before : ℕ) (stops : List ℕ) (j d : ℕ) → j < length stops → stops_rise before stops ≡ true → before ≤ get_or stops j d
stop_low before [] j d l h = absurd (omega arith)
stop_low before (stop ∷ stops) zero d l h =
    let first : before < stop = ltb-true before stop (and_parts (nat_lt before stop) _ (and_parts _ (stops_rise stop stops) h).0).0 in
    omega (arith, first)
stop_low before (stop ∷ stops) (suc i) d l h =
    let parts = and_parts _ (stops_rise stop stops) h in
    let first : before < stop = ltb-true before stop (and_parts (nat_lt before stop) _ parts.0).0 in
    let more : stop ≤ get_or stops i d = stop_low stop stops i d (omega (arith, l)) parts.1 in
    omega (arith, first, more)

pub stops_up : (before : ℕ) (stops : List ℕ) → stops_rise before stops ≡ true → (i j d : ℕ) → i ≤ j → j < length stops → get_or stops i d ≤ get_or stops j d
stops_up before [] h i j d le l = absurd (omega arith)
stops_up before (stop ∷ stops) h zero zero d le l = omega arith
stops_up before (stop ∷ stops) h zero (suc j) d le l = stop_low stop stops j d (omega (arith, l)) (and_parts _ (stops_rise stop stops) h).1
stops_up before (stop ∷ stops) h (suc i) zero d le l = absurd (omega arith)
stops_up before (stop ∷ stops) h (suc i) (suc j) d le l = stops_up stop stops (and_parts _ (stops_rise stop stops) h).1 i j d (omega (arith, le)) (omega (arith, l))

abbrev one_if : Bool → ℕ
one_if b = if b then 1 else 0

-- those before i pass, and none from i on
pub counted_point : (p : ℕ → Bool) (xs : List ℕ) (i : ℕ) → i ≤ length xs → ((k d : ℕ) → 0 ≤ k → k < i → p (get_or xs k d) ≡ true) → ((k d : ℕ) → i ≤ k → k < length xs → p (get_or xs k d) ≡ false) → i ≡ count_by p xs
counted_point p [] i l below above = omega (arith, l)
counted_point p (x ∷ xs) zero l below above =
    let here : count_by p (x ∷ xs) ≡ one_if (p x) + count_by p xs = sum_by-cons (λ y. one_if (p y)) x xs in
    let none : p x ≡ false = above 0 0 (omega arith) (omega arith) in
    let one : one_if (p x) ≡ 0 = ap one_if none in
    let more : 0 ≡ count_by p xs = counted_point p xs 0 (omega arith) (λ k d low high. absurd (omega (arith, high))) (λ k d low high. above (suc k) d (omega arith) (omega (arith, high))) in
    omega (arith, here, one, more)
counted_point p (x ∷ xs) (suc i) l below above =
    let here : count_by p (x ∷ xs) ≡ one_if (p x) + count_by p xs = sum_by-cons (λ y. one_if (p y)) x xs in
    let passes : p x ≡ true = below 0 0 (omega arith) (omega arith) in
    let one : one_if (p x) ≡ 1 = ap one_if passes in
    let more : i ≡ count_by p xs = counted_point p xs i (omega (arith, l)) (λ k d low high. below (suc k) d (omega arith) (omega (arith, high))) (λ k d low high. above (suc k) d (omega (arith, low)) (omega (arith, high))) in
    omega (arith, here, one, more)
