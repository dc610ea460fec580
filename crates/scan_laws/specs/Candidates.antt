-- A set of members that has one candidate for each account on which something ready stands. Which items stand on accounts is the caller's:
-- one that is ready by all its accounts together, or by its phase alone, does not, and is a member of its own wherever it is ready.
use Rattle.std.specs.Prelude.{◌≡◌, ℕ, ◌+◌, Bool, true, false, ◌&&◌, Option, Some, None}
use Rattle.scan_laws.specs.Next.{comes_by}

-- the first number that passes, counted from p on and round the end; none exactly where no number passes
abbrev pub IsFirstRound : (ℕ → Bool) → ℕ → Option ℕ → Type 0
IsFirstRound test p None = (x : ℕ) → test x ≡ false
IsFirstRound test p (Some y) = (test y ≡ true) × ((x : ℕ) → test x ≡ true → comes_by p x y ≡ true)

-- what is ready and stands on a
abbrev pub ready_on : (ℕ → Bool) → (ℕ → ℕ → Bool) → ℕ → ℕ → Bool
ready_on ready stands a x = ready x && stands a x

-- each account's candidate is a member, every member is ready, and nothing is ready that is neither a member nor stands on an account
pub record HasCandidates (members ready : ℕ → Bool) (stands : ℕ → ℕ → Bool) (p : ℕ) (candidate : ℕ → Option ℕ) : Type 0 where
  pub each_is_ready : (x : ℕ) → members x ≡ true → ready x ≡ true
  pub each_is_member : (a y : ℕ) → candidate a ≡ Some y → members y ≡ true
  pub each_is_first : (a : ℕ) → IsFirstRound (ready_on ready stands a) p (candidate a)
  pub each_stands : (x : ℕ) → ready x ≡ true → members x ≡ false → ((a : ℕ) → stands a x ≡ false) → ⊥

-- the line of x leaves account a alone: x doesn't stand on it, the same items on it are ready afterwards, and its candidate is kept
pub record IsLeftAlone (ready later : ℕ → Bool) (stands : ℕ → ℕ → Bool) (candidate newer : ℕ → Option ℕ) (x a : ℕ) : Type 0 where
  pub not_its_own : stands a x ≡ false
  pub same_ready : (k : ℕ) → stands a k ≡ true → later k ≡ ready k
  pub same_candidate : newer a ≡ candidate a

-- the candidates after the line of x: those of accounts that it touches are found anew, and the others are left alone
pub record FindsAnew (ready later : ℕ → Bool) (stands : ℕ → ℕ → Bool) (candidate newer : ℕ → Option ℕ) (touched : ℕ → Bool) (x : ℕ) : Type 0 where
  pub found : (a : ℕ) → touched a ≡ true → IsFirstRound (ready_on later stands a) (x + 1) (newer a)
  pub left_alone : (a : ℕ) → touched a ≡ false → IsLeftAlone ready later stands candidate newer x a
