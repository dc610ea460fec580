-- Digits that make a number, and the digits of a number.
use Rattle.std.proofs.Common.{◌≡◌, ℕ, ◌+◌, ◌/◌, ◌%◌, ◌<◌, true, ◌&&◌, ◌==◌, Some, [], ◌∷◌, ◌++◌, arith}
use Rattle.std.proofs.lemmas.Bool.Decides.{nat_tests}
use Rattle.period_calendar.specs.Digits.{two_digits, four_digits}
use Rattle.period_calendar.specs.MomentTexts.{two_digits_text}

-- digits that make a number are those of its text
pub two_digits_back : (tens units n : ℕ) → two_digits tens units ≡ Some n → tens ∷ units ∷ [] ≡ two_digits_text n
two_digits_back tens units n h = grind (arith, nat_tests)

pub four_digits_back : (a b c d n : ℕ) → four_digits a b c d ≡ Some n → a ∷ b ∷ c ∷ d ∷ [] ≡ two_digits_text (n / 100) ++ two_digits_text n
four_digits_back a b c d n h = grind (arith, nat_tests)

-- and the text of a number reads as it
pub two_digits_forth : (n : ℕ) → n < 100 → two_digits (48 + n / 10 % 10) (48 + n % 10) ≡ Some n
two_digits_forth n h = grind (arith, nat_tests)

pub four_digits_forth : (n : ℕ) → n < 10000 → four_digits (48 + n / 100 / 10 % 10) (48 + n / 100 % 10) (48 + n / 10 % 10) (48 + n % 10) ≡ Some n
four_digits_forth n h = grind (arith, nat_tests)

pub both_stand : (a b sign : ℕ) → (a == sign && b == sign) ≡ true → (a ≡ sign) × (b ≡ sign)
both_stand a b sign h = (grind (arith, nat_tests), grind (arith, nat_tests))
