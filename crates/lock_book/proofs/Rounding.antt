-- The till of the end of a round, brought up to a journal.
use Rattle.std.proofs.Common.{◌≡◌, ℕ, ◌+◌, ◌-◌, true, List, ◌∷◌, Option, is_some, sym, ap, subst, ◌∙◌}
use Rattle.std.specs.List.{list_all}
use Rattle.batch_records.specs.DayRecord.{Day}
use Rattle.batch_records.specs.Sound.{is_sound}
use Rattle.commit_journal.specs.declared.line.Move.{Move}
use Rattle.commit_journal.specs.Line.{History, Line}
use Rattle.commit_journal.specs.Histories.{oldest}
use Rattle.machine.specs.Legal.{IsLegal, want_of}
use Rattle.machine.specs.Records.Setup.{account_numbers}
use Rattle.settle_floor.specs.Carrying.{CanMoveAll, after}
use Rattle.settle_floor.specs.Floors.{has_all}
use Rattle.settle_floor.specs.Tills.{KeepsBalances}
use Rattle.settle_floor.proofs.HeldFacts.{all_held}
use Rattle.settle_floor.proofs.Holding.{same_after}
use Rattle.settle_floor.proofs.Making.{kept_after, moves_can}
use Rattle.lock_book.proofs.Catching.{after_first, legal_oldest}

module _ (day : Day) (sound : is_sound day ≡ true) (J : History) (legal : IsLegal day J) (i : ℕ) (l : Line) (e : oldest J (i + 1) ≡ l ∷ oldest J (i + 1 - 1)) (holdings : ℕ → Option ℕ) (all : has_all holdings day ≡ true) (kept : KeepsBalances holdings day (oldest J i)) where
  here : IsLegal day (l ∷ oldest J i)
  here = subst (IsLegal day) (after_first J i l e) (legal_oldest day J (i + 1) legal)

  -- the moves of the line after the first i lines can be made on a till that has the balances over these
  pub line_moves : CanMoveAll holdings l.moves
  line_moves = moves_can day sound (oldest J i) (want_of l) l here.0 here.1 holdings kept (all_held (λ a. is_some (holdings a)) day all (want_of l))

  -- and it has then those over the line too
  pub line_kept : (later : ℕ → Option ℕ) → later ≡ after holdings l.moves → KeepsBalances later day (oldest J (i + 1))
  line_kept later made =
      subst (λ (h : ℕ → Option ℕ). KeepsBalances h day (oldest J (i + 1))) (sym made)
      (subst (KeepsBalances (after holdings l.moves) day) (sym (after_first J i l e)) (kept_after day sound (oldest J i) (want_of l) l here.0 here.1 holdings kept line_moves))

-- of the same accounts
pub all_after : (day : Day) (holdings later : ℕ → Option ℕ) (moves : List Move) → has_all holdings day ≡ true → later ≡ after holdings moves → has_all later day ≡ true
all_after day holdings later moves all made =
    ap (λ (h : ℕ → Option ℕ). has_all h day) made ∙ (λ j. list_all (λ a. same_after holdings moves a j) (account_numbers day)) ∙ all
