-- What moves need of what is held on accounts, and what they leave.
use Rattle.std.specs.Prelude.{ℕ, ◌+◌, ◌≤◌, ◌≢◌, List, [], ◌∷◌, Option}
use Rattle.std.specs.Option.{IsSomeAnd}
use Rattle.cash_amounts.specs.declared.cents.TheConstants.{MAX_CENTS}
use Rattle.account_book.specs.Transfers.{transferred}
use Rattle.commit_journal.specs.declared.line.Move.{Move}

-- the accounts are two, the debit account covers the amount, and the credit account has room for it
pub record CanMove (holdings : ℕ → Option ℕ) (m : Move) : Type 0 where
  pub apart : m.debit ≢ m.credit
  pub covered : IsSomeAnd (holdings m.debit) (λ held. m.amount ≤ held)
  pub fits : IsSomeAnd (holdings m.credit) (λ held. held + m.amount ≤ MAX_CENTS)

abbrev pub moved_by : (ℕ → Option ℕ) → Move → ℕ → Option ℕ
moved_by holdings m = transferred holdings m.debit m.credit m.amount

-- what is held once all moves are made, one after the other
abbrev pub after : (ℕ → Option ℕ) → List Move → ℕ → Option ℕ
after holdings [] = holdings
after holdings (m ∷ ms) = after (moved_by holdings m) ms

-- each move can be made after those before it
abbrev pub CanMoveAll : (ℕ → Option ℕ) → List Move → Type 0
CanMoveAll holdings [] = Unit {0}
CanMoveAll holdings (m ∷ ms) = CanMove holdings m × CanMoveAll (moved_by holdings m) ms
