-- The least number from a place on that passes a test, and a small set of numbers that shows where it is.
use Rattle.std.specs.Prelude.{◌≡◌, ℕ, zero, suc, Bool, true, false, ◌&&◌, ◌||◌, Option, Some, None, nat_le, if◌then◌else◌}
pub use Rattle.number_set.specs.Next.{IsLeast, IsNext}

-- the least number from p on that passes, of so many numbers
unfoldable pub next_of : (ℕ → Bool) → ℕ → ℕ → Option ℕ
next_of test p zero = None
next_of test p (suc n) = elim (test p) [ true ↦ Some p | false ↦ next_of test (suc p) n ]

-- counted from p on and round the end, y does not come after x
abbrev pub comes_by : ℕ → ℕ → ℕ → Bool
comes_by p x y = if nat_le p x then nat_le p y && nat_le y x else nat_le p y || nat_le y x

-- some member does not come after x
abbrev pub HasOneBy : (ℕ → Bool) → ℕ → ℕ → Type 0
HasOneBy members p x = (y : ℕ) × (members y ≡ true) × (comes_by p x y ≡ true)

-- every member comes after x
abbrev pub IsPassed : (ℕ → Bool) → ℕ → ℕ → Type 0
IsPassed members p x = (y : ℕ) → members y ≡ true → comes_by p x y ≡ false

-- every member is ready, and of no number that is ready do all members come after it, counted from p on. (Said so, and not by a
-- member for each, it is a proposition, as a ghost field has to be.)
pub record Represents (members ready : ℕ → Bool) (p : ℕ) : Type 0 where
  pub each_is_ready : (x : ℕ) → members x ≡ true → ready x ≡ true
  pub none_is_passed : (x : ℕ) → ready x ≡ true → IsPassed members p x → ⊥
