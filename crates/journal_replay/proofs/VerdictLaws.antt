-- The computed verdict holds, and no other does.
use Rattle.std.proofs.Common.{◌≡◌, ℕ, suc, Bool, true, false, ◌&&◌, List, [], ◌∷◌, ◌++◌, length, Option, Some, None, refl, sym, ap, ◌∙◌, arith, append-nil}
use Rattle.std.specs.Prelude.{if◌then◌else◌}
use Rattle.std.proofs.lemmas.Bool.{and_from}
use Rattle.batch_records.specs.DayRecord.{Day}
use Rattle.batch_records.specs.Sound.{is_sound}
use Rattle.commit_journal.specs.Line.{History}
use Rattle.commit_journal.specs.Text.{journal_text}
use Rattle.commit_journal.proofs.FieldLemmas.{both, none_of}
use Rattle.machine.specs.Orders.Order.{plain}
use Rattle.machine.specs.Words.{is_empty}
use Rattle.machine.specs.Legal.{IsLegal, is_complete}
use Rattle.settlement_laws.proofs.DayEnd.PlainRuns.{plain_ends}
use Rattle.journal_replay.specs.declared.judging.Verdict.TheVariants as verdicts
use Rattle.journal_replay.specs.Verdicts.{followed, longest, verdict, verdict_on, next_line, IsWholeJournal, GoesWrongAt, NoneFollows}
use Rattle.journal_replay.specs.VerdictLaws.{Holds, VerdictsHold, NoOtherHolds, WholeJournalsAreLegal, SettledDaysAreLegal}
use Rattle.journal_replay.proofs.Following.{IsFollowed, along, follow_stops, longest_is, next_is, next_stands}

empty_is : (xs : List ℕ) → is_empty xs ≡ true → xs ≡ []
empty_is [] h = refl
empty_is (x ∷ xs) h = cc

never : {X : Type 0} (b : Bool) → b ≡ true → b ≡ false → X
never true h k = cc
never false h k = cc

not_both : {X : Type 0} (o : Option X) (x : X) → o ≡ None → o ≡ Some x → ⊥
not_both None x h k = cc
not_both (Some y) x h k = cc

none_follows : (day : Day) → is_sound day ≡ true → (past : History) (bytes : List ℕ) → next_line day past bytes ≡ None → NoneFollows day past bytes
none_follows day sound past bytes last l rest legal e =
    let found : next_line day past bytes ≡ Some (l, rest) = ap (next_line day past) e ∙ next_stands day sound past l rest legal in
    not_both (next_line day past bytes) (l, rest) last found

no_next : (day : Day) (J : History) (bytes : List ℕ) → IsLegal day J → NoneFollows day J bytes → next_line day J bytes ≡ None
no_next day J bytes legal none = none_of (next_line day J bytes) (λ y h. let is = next_is day J bytes y h in none y.0 y.1 (legal, is.made) is.text)

judged_holds : (day : Day) (text : List ℕ) → is_sound day ≡ true → (read : History × List ℕ) → IsFollowed day [] text read → Holds day text (verdict_on read)
unfolding journal_text
judged_holds day text sound read is = here (is_complete read.0 && is_empty read.1) refl
  where
    here : (b : Bool) → (is_complete read.0 && is_empty read.1) ≡ b → Holds day text (if b then verdicts.Legal (length read.0) else verdicts.Illegal (suc (length read.0)))
    here true h =
        let parts = both (is_complete read.0) (is_empty read.1) h in
        record {
          journal = read.0;
          legal = is.legal;
          complete = parts.0;
          text_is = is.text ∙ ap (λ (xs : List ℕ). journal_text read.0 ++ xs) (empty_is read.1 parts.1) ∙ append-nil (journal_text read.0);
          count = refl;
        }
    here false h = record {
      before = read.0;
      rest = read.1;
      legal = is.legal;
      text_is = is.text;
      place_is = refl;
      none = none_follows day sound read.0 read.1 is.last;
      not_whole = λ complete end. never (is_complete read.0 && is_empty read.1) (and_from (is_complete read.0) (is_empty read.1) complete (ap is_empty end)) h;
    }

pub verdicts_hold : VerdictsHold
unfolding verdict
verdicts_hold day text sound = judged_holds day text sound (longest day text) (longest_is day text)

-- what the code makes of the parts of what was followed
pub found_is : (day : Day) (text : List ℕ) (lines : ℕ) (ended : Bool) (rest : List ℕ) → lines ≡ length (longest day text).0 → ended ≡ is_complete (longest day text).0 → rest ≡ (longest day text).1 →
    (if ended && is_empty rest then verdicts.Legal lines else verdicts.Illegal (suc lines)) ≡ verdict day text
unfolding verdict
found_is day text lines ended rest l e r = λ i. if e i && is_empty (r i) then verdicts.Legal (l i) else verdicts.Illegal (suc (l i))

-- ---- and no other

whole_only : (day : Day) (text : List ℕ) (lines : ℕ) → is_sound day ≡ true → IsWholeJournal day text lines → verdicts.Legal lines ≡ verdict day text
unfolding verdict followed
whole_only day text lines sound w =
    let text_is : text ≡ journal_text w.journal ++ [] = w.text_is ∙ sym (append-nil (journal_text w.journal)) in
    let read : longest day text ≡ (w.journal, []) = ap (longest day) text_is ∙ along day sound _ w.journal [] w.legal (omega arith) in
    let legal : verdict_on (w.journal, []) ≡ verdicts.Legal (length w.journal) = ap (λ b. if b && true then verdicts.Legal (length w.journal) else verdicts.Illegal (suc (length w.journal))) w.complete in
    ap (λ n. verdicts.Legal n) w.count ∙ sym (ap verdict_on read ∙ legal)

wrong_only : (day : Day) (text : List ℕ) (place : ℕ) → is_sound day ≡ true → GoesWrongAt day text place → verdicts.Illegal place ≡ verdict day text
unfolding verdict
wrong_only day text place sound w =
    let last = no_next day w.before w.rest w.legal w.none in
    let read : longest day text ≡ (w.before, w.rest) = ap (longest day) w.text_is ∙ along day sound _ w.before w.rest w.legal (omega arith) ∙ follow_stops day w.before w.rest last in
    ap (λ n. verdicts.Illegal n) w.place_is ∙ sym (ap verdict_on read ∙ illegal (is_complete w.before) refl (is_empty w.rest) refl)
  where
    illegal : (a : Bool) → is_complete w.before ≡ a → (b : Bool) → is_empty w.rest ≡ b → (if a && b then verdicts.Legal (length w.before) else verdicts.Illegal (suc (length w.before))) ≡ verdicts.Illegal (suc (length w.before))
    illegal true h true k = absurd (w.not_whole h (empty_is w.rest k))
    illegal true h false k = refl
    illegal false h b k = refl

pub whole_journals_are_legal : WholeJournalsAreLegal
whole_journals_are_legal day J sound legal complete = sym (whole_only day (journal_text J) (length J) sound (record { journal = J; legal = legal; complete = complete; text_is = refl; count = refl }))

-- the journal of the written order is legal and complete
pub settled_days_are_legal : SettledDaysAreLegal
settled_days_are_legal day sound = let ends = plain_ends day sound in whole_journals_are_legal day (plain day) sound ends.0 ends.1

pub no_other_holds : NoOtherHolds
no_other_holds day text (verdicts.Legal lines) sound holds = whole_only day text lines sound holds
no_other_holds day text (verdicts.Illegal place) sound holds = wrong_only day text place sound holds
