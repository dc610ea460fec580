-- Which texts are amounts, and how far a text begins one.
use Rattle.std.specs.Prelude.{◌≡◌, ℕ, ◌+◌, ◌-◌, ◌*◌, ◌<◌, ◌≤◌, ◌⊎◌, List, [], ◌∷◌, ◌++◌, length, take}
use Rattle.cash_amounts.specs.declared.cents.TheConstants.{MAX_CENTS}

abbrev pub IsDigit : ℕ → Type 0
IsDigit c = (48 ≤ c) × (c ≤ 57)

-- the second digit after the stop, and nothing more, make this many cents more
abbrev pub EndsInUnits : ℕ → List ℕ → ℕ → Type 0
EndsInUnits cents (u ∷ []) n = IsDigit u × (n ≡ cents + (u - 48))
EndsInUnits cents _ n = ⊥

-- the two digits after the stop
abbrev pub EndsInTenths : ℕ → List ℕ → ℕ → Type 0
EndsInTenths cents (t ∷ text) n = IsDigit t × EndsInUnits (cents + 10 * (t - 48)) text n
EndsInTenths cents [] n = ⊥

-- after digits that make this many euros stands the stop, or one more digit where they aren't the single 0
abbrev pub EndsInEuros : ℕ → List ℕ → ℕ → Type 0
EndsInEuros euros (c ∷ text) n =
    ((c ≡ 46) × EndsInTenths (100 * euros) text n) ⊎ ((0 < euros) × IsDigit c × EndsInEuros (10 * euros + (c - 48)) text n)
EndsInEuros euros [] n = ⊥

-- a digit, and what follows it
abbrev pub HasForm : List ℕ → ℕ → Type 0
HasForm (c ∷ text) n = IsDigit c × EndsInEuros (c - 48) text n
HasForm [] n = ⊥

-- the text of an amount of this many cents
pub record IsAmountText (text : List ℕ) (cents : ℕ) : Type 0 where
  pub form : HasForm text cents
  pub within : cents ≤ MAX_CENTS

-- the front of the text of some amount
abbrev pub BeginsAmount : List ℕ → Type 0
BeginsAmount front = (rest : List ℕ) × (cents : ℕ) × IsAmountText (front ++ rest) cents

-- The text is no amount, and this is how far it could have become one: the byte there fits no amount, or the text ends there.
pub record IsAmountFault (text : List ℕ) (at : ℕ) : Type 0 where
  pub no_amount : (cents : ℕ) → IsAmountText text cents → ⊥
  pub within : at ≤ length text
  pub before : BeginsAmount (take at text)
  pub there : at < length text → BeginsAmount (take (at + 1) text) → ⊥
