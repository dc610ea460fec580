-- Moves on a till: that those of a line can be made, and what they leave.
use Rattle.std.proofs.Common.{◌≡◌, ℕ, ◌+◌, ◌≤◌, ◌<◌, List, length, drop, slice_index_or, Option, refl, sym, ap, subst, ◌∙◌}
use Rattle.std.proofs.lemmas.List.{drop_all}
use Rattle.account_book.specs.Transfers.{transferred}
use Rattle.commit_journal.specs.declared.line.Move.{Move}
use Rattle.proc_b.proofs.Debtors.{item_first}
use Rattle.settle_floor.specs.Carrying.{CanMove, CanMoveAll, after, moved_by}

-- ---- the loop

pub record Carries (start now : ℕ → Option ℕ) (moves : List Move) (i : ℕ) : Type 0 where
  pub rest : CanMoveAll now (drop i moves)
  pub same : after now (drop i moves) ≡ after start moves

pub carries-first : (start : ℕ → Option ℕ) (moves : List Move) → CanMoveAll start moves → Carries start start moves 0
carries-first start moves can = record { rest = can; same = refl }

pub next_can : (start now : ℕ → Option ℕ) (moves : List Move) (i : ℕ) (m : Move) → i < length moves → m ≡ slice_index_or moves i m → Carries start now moves i → CanMove now m
next_can start now moves i m within is c = (subst (CanMoveAll now) (item_first moves i m within is) c.rest).0

pub carries-next : (start now next : ℕ → Option ℕ) (moves : List Move) (i : ℕ) (m : Move) → i < length moves → m ≡ slice_index_or moves i m → Carries start now moves i →
    ((a : ℕ) → next a ≡ transferred now m.debit m.credit m.amount a) → Carries start next moves (i + 1)
carries-next start now next moves i m within is c made = record {
  rest = subst (λ h. CanMoveAll h (drop (i + 1) moves)) (sym all) (subst (CanMoveAll now) (item_first moves i m within is) c.rest).1;
  same = ap (λ h. after h (drop (i + 1) moves)) all ∙ sym (ap (after now) (item_first moves i m within is)) ∙ c.same;
}
  where
    all : next ≡ moved_by now m
    all = λ j a. made a j

pub carries-last : (start now : ℕ → Option ℕ) (moves : List Move) (i : ℕ) → length moves ≤ i → Carries start now moves i → now ≡ after start moves
carries-last start now moves i over c = sym (ap (after now) (drop_all i moves over)) ∙ c.same
