-- The amount of a text, in cents: digits without a leading zero or the single 0, a stop, and two digits.
use Rattle.std.specs.Prelude.{ℕ, ◌+◌, ◌-◌, ◌*◌, ◌&&◌, ◌==◌, nat_le, nat_lt, if◌then◌else◌, List, [], ◌∷◌, Option, Some, None, unwrap_or}
use Rattle.cash_amounts.specs.Names.{is_digit}
use Rattle.cash_amounts.specs.declared.cents.TheConstants.{MAX_CENTS}

-- the second digit after the stop, and nothing more
abbrev pub with_units : ℕ → List ℕ → Option ℕ
with_units cents (u ∷ []) = if is_digit u then Some (cents + (u - 48)) else None
with_units cents _ = None

-- the two digits after the stop
abbrev pub with_tenths : ℕ → List ℕ → Option ℕ
with_tenths cents [] = None
with_tenths cents (t ∷ text) = if is_digit t then with_units (cents + 10 * (t - 48)) text else None

-- after digits that make this many euros: the stop, or one more digit where they aren't the single 0
abbrev pub with_euros : ℕ → List ℕ → Option ℕ
with_euros euros [] = None
with_euros euros (c ∷ text) =
    if c == 46 then with_tenths (100 * euros) text
    else if nat_lt 0 euros && is_digit c then with_euros (10 * euros + (c - 48)) text
    else None

-- the number of cents that a text spells
abbrev pub spelled_cents : List ℕ → Option ℕ
spelled_cents [] = None
spelled_cents (c ∷ text) = if is_digit c then with_euros (c - 48) text else None

-- no more than the largest amount
abbrev pub within_largest : Option ℕ → Option ℕ
within_largest None = None
within_largest (Some n) = if nat_le n MAX_CENTS then Some n else None

-- the amount of a text, where it is an amount's
unfoldable pub cents_of : List ℕ → Option ℕ
cents_of text = within_largest (spelled_cents text)

-- the same, and 0 where it is none
abbrev pub amount_in : List ℕ → ℕ
amount_in text = unwrap_or (cents_of text) 0
