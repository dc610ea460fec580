-- A small set of members that shows where the next number is that is ready. A member need not be ready itself.
use Rattle.std.specs.Prelude.{◌≡◌, ℕ, ◌<◌, ◌≤◌, Bool, true, false, Option, None, Some}
use Rattle.scan_laws.specs.Next.{IsPassed}

-- of no number that is ready do all members come after it, counted from p on and round the end
pub record Shows (members ready : ℕ → Bool) (p : ℕ) : Type 0 where
  pub none_is_passed : (x : ℕ) → ready x ≡ true → IsPassed members p x → ⊥

-- no number from p on is ready, up to this one; none at all where it is none
abbrev pub IsIdle : (ℕ → Bool) → ℕ → Option ℕ → Type 0
IsIdle ready p None = (k : ℕ) → p ≤ k → ready k ≡ false
IsIdle ready p (Some x) = (k : ℕ) → p ≤ k → k < x → ready k ≡ false
