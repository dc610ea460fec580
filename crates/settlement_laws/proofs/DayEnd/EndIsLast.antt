-- The End line of a legal history is its last, so what is unfinished has a line, also once the day has ended.
use Rattle.std.proofs.Common.{◌≡◌, ℕ, Bool, true, false, ◌||◌, [], ◌∷◌, Option, Some, None, refl, sym, ◌∙◌, ap}
use Rattle.std.specs.Prelude.{IfSome}
use Rattle.batch_records.specs.DayRecord.{Day}
use Rattle.batch_records.specs.Sound.{is_sound}
use Rattle.commit_journal.specs.declared.line.Want.{Want}
use Rattle.commit_journal.specs.Line.{Line, History}
use Rattle.machine.specs.Telling.History.{is_end, is_ended, place_of}
use Rattle.machine.specs.Legal.{IsLegal, is_complete, want_of}
use Rattle.machine.specs.Orders.Hints.{unfinished}
use Rattle.settlement_laws.specs.Unfinished.{IsFirstWithLine, NoneHasALine, UnfinishedIsFirstWithLine}
use Rattle.settlement_laws.proofs.Base.Induction.{line_of-some}
use Rattle.settlement_laws.proofs.Base.LinesOf.{placed_more}
use Rattle.settlement_laws.proofs.Wants.UnfinishedWants.{unfinished_has_a_line, unfinished_is_first, nothing_unfinished, nothing_at_the_end}

pub ended_is_complete : (day : Day) (J : History) → IsLegal day J → is_ended J ≡ is_complete J
unfolding place_of
ended_is_complete day [] legal = refl
ended_is_complete day (l ∷ J) legal =
    placed_more (λ (x : Line). is_end x.head.kind) l J ∙ ap (λ b. b || is_end l.head.kind) (line_of-some day J (want_of l) l legal.1).0

-- ---- what is unfinished

goes_on : (day : Day) (J : History) → is_sound day ≡ true → IsLegal day J → (n : ℕ) (want : Want) → unfinished day J n ≡ Some want → is_ended J ≡ false
goes_on day J sound legal n want h = here (is_ended J) refl
  where
    both : (o : Option Want) → o ≡ None → o ≡ Some want → true ≡ false
    both None e f = cc
    both (Some w) e f = cc

    here : (b : Bool) → is_ended J ≡ b → b ≡ false
    here false e = refl
    here true e = both (unfinished day J n) (nothing_at_the_end day J sound legal (sym (ended_is_complete day J legal) ∙ e) n) h

pub unfinished_is_first_with_line : (day : Day) (J : History) → is_sound day ≡ true → IsLegal day J → UnfinishedIsFirstWithLine day J
unfinished_is_first_with_line day J sound legal n want h =
    let w = unfinished_has_a_line day J n want h in
    (w.0, w.1, w.2 (goes_on day J sound legal n want h), λ other m c. unfinished_is_first day J n want other h m c)

-- ---- what a call answers

pub first_with_line : (day : Day) (J : History) → is_sound day ≡ true → IsLegal day J → (n : ℕ) (answer : Option Want) → answer ≡ unfinished day J n → IfSome answer (IsFirstWithLine day J n)
first_with_line day J sound legal n None e = tt
first_with_line day J sound legal n (Some want) e = unfinished_is_first_with_line day J sound legal n want (sym e)

pub none_with_line : (day : Day) (J : History) (n : ℕ) (answer : Option Want) → answer ≡ unfinished day J n → answer ≡ None → NoneHasALine day J n
none_with_line day J n answer e none want m p = nothing_unfinished day J n want (sym e ∙ none) m p
