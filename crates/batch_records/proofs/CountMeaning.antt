-- The text of a count is the decimal of its number.
use Rattle.std.proofs.Common.{◌≡◌, ◌<◌, ◌≤◌, ◌+◌, ◌-◌, ◌*◌, ◌/◌, ◌%◌, ℕ, List, [], ◌∷◌, ◌++◌, Some, None, true, false, decimal, refl, sym, ap, arith, append_assoc, append-nil, ◌∙◌, ◌↔◌}
use Rattle.std.specs.Prelude.{◌&&◌, if◌then◌else◌, nat_lt}
use Rattle.std.proofs.lemmas.Fmt.{decimal_digit, decimal_step}
use Rattle.std.proofs.lemmas.Grind.{common_steps}
use Rattle.std.proofs.lemmas.Option.{same_Some}
use Rattle.cash_amounts.specs.Names.{is_digit}
use Rattle.batch_records.specs.CountText.{count_of, with_digits}
use Rattle.batch_records.proofs.BoolFacts.{and_both, lt_meant}
use Rattle.batch_records.proofs.SpellingFacts.{count_reads}

digit_range : (c : ℕ) → is_digit c ≡ true → (48 ≤ c) × (c ≤ 57)
digit_range c e = (grind (arith, common_steps, e), grind (arith, common_steps, e))

-- digits after those of a number
counted : (n : ℕ) (text : List ℕ) (m : ℕ) → n < 10000000 → with_digits n text ≡ Some m → (decimal n ++ text ≡ decimal m) × (m < 10000000)
counted n [] m few e =
    let same = same_Some n m e in
    (append-nil (decimal n) ∙ ap decimal same, omega arith)
counted n (c ∷ text) m few e =
    (elim (nat_lt 0 n && nat_lt n 1000000 && is_digit c) as (λ b. (nat_lt 0 n && nat_lt n 1000000 && is_digit c) ≡ b → (if b then with_digits (10 * n + (c - 48)) text else None) ≡ Some m
    → (decimal n ++ c ∷ text ≡ decimal m) × (m < 10000000)) [
      | true ↦ λ t f.
          let both = and_both (nat_lt 0 n && nat_lt n 1000000) (is_digit c) t in
          let range = and_both (nat_lt 0 n) (nat_lt n 1000000) both.0 in
          let some = lt_meant 0 n range.0 in
          let fewer = lt_meant n 1000000 range.1 in
          let low = (digit_range c both.1).0 in
          let high = (digit_range c both.1).1 in
          let front : (10 * n + (c - 48)) / 10 ≡ n = omega arith in
          let last : 48 + (10 * n + (c - 48)) % 10 ≡ c = omega arith in
          let step : decimal (10 * n + (c - 48)) ≡ decimal n ++ (c ∷ []) = decimal_step (10 * n + (c - 48)) (omega arith) (omega arith) ∙ cc in
          let more = counted (10 * n + (c - 48)) text m (omega arith) f in
          (sym (append_assoc (decimal n) (c ∷ []) text) ∙ ap (λ (digits : List ℕ). digits ++ text) (sym step) ∙ more.0, more.1)
      | false ↦ λ t f. cc f
    ]) refl e

count_meant : (text : List ℕ) (n : ℕ) → count_of text ≡ Some n → (text ≡ decimal n) × (n < 10000000)
unfolding count_of
count_meant [] n e = cc e
count_meant (c ∷ text) n e =
    (elim (is_digit c) as (λ b. is_digit c ≡ b → (if b then with_digits (c - 48) text else None) ≡ Some n → (c ∷ text ≡ decimal n) × (n < 10000000)) [
      | true ↦ λ t f.
          let low = (digit_range c t).0 in
          let high = (digit_range c t).1 in
          let same : 48 + (c - 48) ≡ c = omega arith in
          let one : decimal (c - 48) ≡ c ∷ [] = decimal_digit (c - 48) (omega arith) ∙ ap (λ (d : ℕ). d ∷ []) same in
          let more = counted (c - 48) text n (omega arith) f in
          (ap (λ (digits : List ℕ). digits ++ text) (sym one) ∙ more.0, more.1)
      | false ↦ λ t f. cc f
    ]) refl e

pub count_is_decimal : (text : List ℕ) (n : ℕ) → count_of text ≡ Some n ↔ ((text ≡ decimal n) × (n < 10000000))
count_is_decimal text n = (count_meant text n, λ h. ap count_of h.0 ∙ count_reads n h.1)
