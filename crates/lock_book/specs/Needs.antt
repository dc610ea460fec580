-- Which groups a want needs: those of its accounts.
use Rattle.std.specs.Prelude.{ℕ, ◌%◌, ◌||◌, ◌++◌, Bool, List, [], ◌∷◌, nat_eq}
use Rattle.std.specs.List.{list_any}
use Rattle.commit_journal.specs.declared.line.Move.{Move}
use Rattle.lock_book.specs.declared.needs.Needs.{Needs}

-- an account by its number, without 0
abbrev pub above_zero : ℕ → List ℕ
above_zero ℕ.zero = []
above_zero (ℕ.suc a) = ℕ.suc a ∷ []

-- the accounts of a move
abbrev pub accounts_in : Move → List ℕ
accounts_in m = above_zero m.debit ++ above_zero m.credit

-- whether one of the accounts is in the group
abbrev pub is_needed : List ℕ → ℕ → Bool
is_needed accounts number = list_any (λ a. nat_eq (a % 8) number) accounts

abbrev pub needs_of : List ℕ → Needs
needs_of accounts = record {
  zero = is_needed accounts 0;
  one = is_needed accounts 1;
  two = is_needed accounts 2;
  three = is_needed accounts 3;
  four = is_needed accounts 4;
  five = is_needed accounts 5;
  six = is_needed accounts 6;
  seven = is_needed accounts 7;
}

-- the groups of both
abbrev pub either : Needs → Needs → Needs
either p q = record {
  zero = p.zero || q.zero;
  one = p.one || q.one;
  two = p.two || q.two;
  three = p.three || q.three;
  four = p.four || q.four;
  five = p.five || q.five;
  six = p.six || q.six;
  seven = p.seven || q.seven;
}
