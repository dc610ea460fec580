-- The count that a text spells: digits without a leading zero or the single 0, at most seven.
use Rattle.std.specs.Prelude.{ℕ, ◌+◌, ◌-◌, ◌*◌, ◌&&◌, nat_lt, if◌then◌else◌, List, [], ◌∷◌, Option, Some, None, unwrap_or}
use Rattle.cash_amounts.specs.Names.{is_digit}

-- after digits that make this number: the end, or one more digit where they aren't the single 0 and fewer than seven
abbrev pub with_digits : ℕ → List ℕ → Option ℕ
with_digits n [] = Some n
with_digits n (c ∷ text) = if nat_lt 0 n && nat_lt n 1000000 && is_digit c then with_digits (10 * n + (c - 48)) text else None

-- the count of a text, where it is one's
unfoldable pub count_of : List ℕ → Option ℕ
count_of [] = None
count_of (c ∷ text) = if is_digit c then with_digits (c - 48) text else None

-- the same, and 0 where it is none
abbrev pub count_in : List ℕ → ℕ
count_in text = unwrap_or (count_of text) 0
