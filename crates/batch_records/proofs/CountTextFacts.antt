-- A count has at most seven digits.
use Rattle.std.proofs.Common.{◌≡◌, ◌<◌, ◌≤◌, ◌+◌, ◌-◌, ◌*◌, ◌⊎◌, ℕ, List, [], ◌∷◌, None, true, false, length, drop, drop-cons, refl, arith, inl, inr}
use Rattle.std.specs.Prelude.{◌&&◌, if◌then◌else◌, nat_lt, unwrap_or}
use Rattle.std.proofs.lemmas.Grind.{common_steps}
use Rattle.cash_amounts.specs.Names.{is_digit}
use Rattle.batch_records.specs.CountText.{count_in, count_of, with_digits}
use Rattle.batch_records.proofs.BoolFacts.{and_both, lt_meant}

digit_below : (c : ℕ) → is_digit c ≡ true → c - 48 < 10
digit_below c e = grind (arith, common_steps, e)

-- no digit may follow the single 0, nor seven digits
no_digit : (n : ℕ) → (n ≡ 0) ⊎ ((n ≡ 0 → ⊥) × (1000000 ≤ n)) → (nat_lt 0 n && nat_lt n 1000000) ≡ false
no_digit n (inl zero) = rw zero refl
no_digit n (inr many) = let past = many.1 in grind (arith, common_steps)

pub no_more : (n : ℕ) (text : List ℕ) (i : ℕ) → i < length text → (n ≡ 0) ⊎ ((n ≡ 0 → ⊥) × (1000000 ≤ n)) → with_digits n (drop i text) ≡ None
no_more n text i within h = rw (drop-cons text i 0, no_digit n h) refl

digits_few : (n : ℕ) (text : List ℕ) → n < 10000000 → unwrap_or (with_digits n text) 0 < 10000000
digits_few n [] h = h
digits_few n (c ∷ text) h =
    (elim (nat_lt 0 n && nat_lt n 1000000 && is_digit c) as (λ b. (nat_lt 0 n && nat_lt n 1000000 && is_digit c) ≡ b → unwrap_or (if b then with_digits (10 * n + (c - 48)) text else None) 0 < 10000000) [
      | true ↦ λ e.
          let both = and_both (nat_lt 0 n && nat_lt n 1000000) (is_digit c) e in
          let few = lt_meant n 1000000 (and_both (nat_lt 0 n) (nat_lt n 1000000) both.0).1 in
          let digit = digit_below c both.1 in
          digits_few (10 * n + (c - 48)) text (omega arith)
      | false ↦ λ e. omega arith
    ]) refl

pub count_few : (text : List ℕ) → count_in text < 10000000
unfolding count_of
count_few [] = omega arith
count_few (c ∷ text) =
    (elim (is_digit c) as (λ b. is_digit c ≡ b → unwrap_or (if b then with_digits (c - 48) text else None) 0 < 10000000) [
      | true ↦ λ e. let digit = digit_below c e in digits_few (c - 48) text (omega arith)
      | false ↦ λ e. omega arith
    ]) refl
