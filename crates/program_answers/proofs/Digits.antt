-- The number of some digits, digit by digit.
use Rattle.std.proofs.Common.{◌≡◌, ℕ, zero, suc, ◌+◌, ◌-◌, ◌*◌, ◌^◌, ◌≤◌, ◌<◌, true, List, [], ◌∷◌, length, take, get_or, refl, arith}
use Rattle.std.specs.Prelude.{nat_le}
use Rattle.std.specs.List.{list_all}
use Rattle.std.specs.Str.Parse.{AllDigits, digits_value}
use Rattle.std.proofs.lemmas.Bool.{and_parts, leb-true}
use Rattle.std.proofs.lemmas.Int.Digits.{digits_value_more}
use Rattle.std.proofs.lemmas.Str.{digit_value_digit}
use Rattle.std.proofs.lemmas.Str.Parse.{digits_value-take-le, digits_value_short, numerals_by_value, tells_digits}
use Rattle.cash_amounts.specs.Names.{is_digit}

in_range : (c : ℕ) → is_digit c ≡ true → (48 ≤ c) × (c ≤ 57)
in_range c h = let both = and_parts (nat_le 48 c) (nat_le c 57) h in (leb-true 48 c both.0, leb-true c 57 both.1)

all_digits : (ds : List ℕ) → list_all is_digit ds ≡ true → AllDigits 10 ds
all_digits [] h = tt
all_digits (c ∷ cs) h =
    let both = and_parts (is_digit c) (list_all is_digit cs) h in
    let digit = in_range c both.0 in
    (omega (arith, digit_value_digit c digit, digit.0, digit.1), all_digits cs both.1)

digit_at : (ds : List ℕ) (i : ℕ) → list_all is_digit ds ≡ true → i < length ds → (48 ≤ get_or ds i 0) × (get_or ds i 0 ≤ 57)
digit_at [] i h l = absurd (omega (arith, l))
digit_at (c ∷ cs) zero h l = in_range c (and_parts (is_digit c) (list_all is_digit cs) h).0
digit_at (c ∷ cs) (suc i) h l = digit_at cs i (and_parts (is_digit c) (list_all is_digit cs) h).1 (omega (arith, l))

-- nine digits are below a thousand million
pub value_small : (ds : List ℕ) (i v : ℕ) → list_all is_digit ds ≡ true → length ds ≤ 9 → v ≡ digits_value 10 (take i ds) → v < 10 ^ 9
value_small ds i v h short e =
    let all : digits_value 10 ds < 10 ^ 9 = digits_value_short (numerals_by_value (AllDigits 10) tells_digits) ds 9 (all_digits ds h) short in
    let part : digits_value 10 (take i ds) ≤ digits_value 10 ds = digits_value-take-le 10 ds i (omega arith) in
    omega (arith, all, part, e)

-- one digit more
pub value_more : (ds : List ℕ) (i v d : ℕ) → list_all is_digit ds ≡ true → i < length ds → v ≡ digits_value 10 (take i ds) → d ≡ get_or ds i 0 - 48 → v * 10 + d ≡ digits_value 10 (take (i + 1) ds)
value_more ds i v d h l e q =
    let more = digits_value_more 10 ds i l in
    let digit = digit_at ds i h l in
    let is = digit_value_digit (get_or ds i 0) digit in
    omega (arith, more, e, q, digit.0, is)

-- and with it nine at most
pub room_for_more : (ds : List ℕ) (i v : ℕ) → list_all is_digit ds ≡ true → length ds ≤ 9 → i < length ds → v ≡ digits_value 10 (take i ds) → v * 10 < 10 ^ 9
room_for_more ds i v h short l e =
    let more = value_more ds i v (get_or ds i 0 - 48) h l e refl in
    let low = value_small ds (i + 1) (v * 10 + (get_or ds i 0 - 48)) h short more in
    omega (arith, low)
