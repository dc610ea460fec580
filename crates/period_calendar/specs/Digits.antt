-- Numbers written with a fixed number of decimal digits.
use Rattle.std.specs.Prelude.{ℕ, ◌+◌, ◌-◌, ◌*◌, Bool, nat_le, ◌&&◌, Option, Some, None, if◌then◌else◌}

abbrev pub is_digit : ℕ → Bool
is_digit byte = nat_le 48 byte && nat_le byte 57

-- the number of two digits
abbrev pub two_digits : ℕ → ℕ → Option ℕ
two_digits tens units = if is_digit tens && is_digit units then Some (10 * (tens - 48) + (units - 48)) else None

-- the number of four digits
abbrev pub four_digits : ℕ → ℕ → ℕ → ℕ → Option ℕ
four_digits thousands hundreds tens units =
    if is_digit thousands && is_digit hundreds && is_digit tens && is_digit units
    then Some (1000 * (thousands - 48) + 100 * (hundreds - 48) + 10 * (tens - 48) + (units - 48)) else None
