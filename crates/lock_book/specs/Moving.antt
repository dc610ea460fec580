-- What moves need of one account, and what they leave on it.
use Rattle.std.specs.Prelude.{ℕ, ◌+◌, ◌-◌, ◌≤◌, if◌then◌else◌, List, [], ◌∷◌, nat_eq}
use Rattle.cash_amounts.specs.declared.cents.TheConstants.{MAX_CENTS}
use Rattle.commit_journal.specs.declared.line.Move.{Move}

-- the amount, where it is this account
abbrev pub only_at : ℕ → ℕ → ℕ → ℕ
only_at a account amount = if nat_eq account a then amount else 0

-- what is on the account after a move
abbrev pub moved_at : ℕ → Move → ℕ → ℕ
moved_at a m held = (held - only_at a m.debit m.amount) + only_at a m.credit m.amount

-- the account covers what the move takes from it, and has room for what it brings to it
pub record CanMoveAt (a : ℕ) (m : Move) (held : ℕ) : Type 0 where
  pub covered : only_at a m.debit m.amount ≤ held
  pub fits : moved_at a m held ≤ MAX_CENTS

-- what is on it once all moves are made, one after the other
abbrev pub all_moved_at : ℕ → List Move → ℕ → ℕ
all_moved_at a [] held = held
all_moved_at a (m ∷ ms) held = all_moved_at a ms (moved_at a m held)

-- each move can be made after those before it
abbrev pub CanMoveAllAt : ℕ → List Move → ℕ → Type 0
CanMoveAllAt a [] held = Unit {0}
CanMoveAllAt a (m ∷ ms) held = CanMoveAt a m held × CanMoveAllAt a ms (moved_at a m held)
