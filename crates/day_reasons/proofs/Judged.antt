-- The reason in what is answered on a want.
use Rattle.std.proofs.Common.{◌≡◌, ◌∙◌, ℕ, ◌+◌, false, [], length, Option, Some, None, Result, Ok, Err, refl, sym, ap, subst}
use Rattle.std.specs.Prelude.{is_none, is_some}
use Rattle.std.proofs.lemmas.Bool.{false≢true}
use Rattle.batch_records.specs.DayRecord.{Day}
use Rattle.commit_journal.specs.declared.line.Head.{Head}
use Rattle.commit_journal.specs.declared.line.Want.{Want}
use Rattle.commit_journal.specs.Kept.{MovesInRoom}
use Rattle.commit_journal.specs.Line.{History}
use Rattle.machine.specs.declared.answers.Why.{Why}
use Rattle.machine.specs.Making.Lines.{line_of}
use Rattle.machine.specs.Making.Reasons.{why_of}
use Rattle.rule_book.specs.Answering.{IsAnswer}
use Rattle.settlement_laws.proofs.Wants.ReasonsMatchLines.{complement}
use Rattle.day_reasons.specs.Desks.{clear}

-- a want with a line has no reason
pub no_reason : (day : Day) (J : History) (want : Want) → is_none (line_of day J want) ≡ false → None ≡ why_of day J want
no_reason day J want made = here (why_of day J want) (complement day J want ∙ made)
  where
    here : (o : Option Why) → is_some o ≡ false → None ≡ o
    here None h = refl
    here (Some why) h = absurd (false≢true (sym h))

module _ (day : Day) (J : History) (want : Want) (judged : Result Head Why) (moves : MovesInRoom) where
  pub none_judged : (head : Head) → judged ≡ Ok head → IsAnswer day J want clear moves judged → None ≡ why_of day J want
  none_judged head e is = no_reason day J want (ap is_none (subst (IsAnswer day J want clear moves) e is).0)

  pub room_back : (head : Head) → judged ≡ Ok head → IsAnswer day J want clear moves judged → record { moves = []; room = moves.room + length moves.moves } ≡ clear
  room_back head e is = let room = (subst (IsAnswer day J want clear moves) e is).1 in ap (λ (r : ℕ). record { moves = []; room = r }) room

  pub some_judged : (why : Why) → judged ≡ Err why → IsAnswer day J want clear moves judged → Some why ≡ why_of day J want
  some_judged why e is = sym (subst (IsAnswer day J want clear moves) e is).0

  pub kept_clear : (why : Why) → judged ≡ Err why → IsAnswer day J want clear moves judged → moves ≡ clear
  kept_clear why e is = (subst (IsAnswer day J want clear moves) e is).1
