-- The End line changes nothing that a history tells of a message.
use Rattle.std.proofs.Common.{◌≡◌, ℕ, true, ◌&&◌, ◌||◌, not, [], ◌∷◌, Option, Some, None, refl, sym, ap, ◌∙◌}
use Rattle.std.specs.Prelude.{is_some, is_none, nat_lt}
use Rattle.std.specs.List.{list_all}
use Rattle.std.specs.Option.{option_or}
use Rattle.batch_records.specs.DayRecord.{Day}
use Rattle.commit_journal.specs.declared.line.Code.{Code}
use Rattle.commit_journal.specs.declared.line.Kind.{Kind}
use Rattle.commit_journal.specs.declared.line.Kind.TheVariants as kinds
use Rattle.commit_journal.specs.declared.line.Want.TheVariants as wants
use Rattle.commit_journal.specs.Line.{Line, History}
use Rattle.machine.specs.declared.answers.Phase.TheVariants as phases
use Rattle.machine.specs.Words.{first_case, some_passes}
use Rattle.machine.specs.Records.Messages.{Sort, Pay, BatchA, BatchB, BatchC, BatchD, BatchE, sort_of, is_a, info_end, earliest, entry_numbers, credit_numbers}
use Rattle.machine.specs.Telling.History.{is_end, is_ok, read_first, taken_code, is_accepted, booked, asked, covered, closed, clock, is_in_of, is_book_of, is_all_of, is_ask_of, is_cover_of, is_closing_of}
use Rattle.machine.specs.Telling.Facts.{answered, answer_taken, revoked, revokes, cycle_ended}
use Rattle.machine.specs.Stages.Phases.{phase, is_no_order, revoked_as, settled_as, open_as}
use Rattle.machine.specs.Making.Lines.{end_line, line_of}
use Rattle.machine.specs.Legal.{IsLegal, want_as}
use Rattle.settlement_laws.proofs.Base.Induction.{line_of-some}
use Rattle.settlement_laws.proofs.Base.Places.{place-other}
use Rattle.settlement_laws.proofs.Base.LinesOf.{clock_stays}

end_kind : (kind : Kind) (n k : ℕ) → is_end kind ≡ true → want_as kind n k ≡ wants.End
end_kind kinds.End n k h = refl
end_kind _ n k h = cc

-- there is one End line
pub end_is : (day : Day) (l : Line) (J : History) → IsLegal day (l ∷ J) → is_end l.head.kind ≡ true → end_line ≡ l
end_is day l J legal h =
    let w : want_as l.head.kind l.head.msg l.head.entry ≡ wants.End = end_kind l.head.kind l.head.msg l.head.entry h in
    (line_of-some day J wants.End l (sym (ap (line_of day J) w) ∙ legal.1)).2

-- ---- after the End line as before it

pub accepted_end : (J : History) (n : ℕ) → is_accepted (end_line ∷ J) n ≡ is_accepted J n
unfolding read_first
accepted_end J n = here (taken_code J n)
  where
    here : (o : Option Code) → some_passes is_ok (option_or o None) ≡ some_passes is_ok o
    here None = refl
    here (Some c) = refl

pub booked_end : (J : History) (n k : ℕ) → booked (end_line ∷ J) n k ≡ booked J n k
booked_end J n k = place-other (is_book_of n k) end_line J refl

pub closed_end : (J : History) (n : ℕ) → closed (end_line ∷ J) n ≡ closed J n
closed_end J n = place-other (is_closing_of n) end_line J refl

pub revoked_end : (day : Day) (J : History) (n k : ℕ) → revoked day (end_line ∷ J) n k ≡ revoked day J n k
revoked_end day J n k = place-other (revokes day n k) end_line J refl

covered_end : (J : History) (n : ℕ) → covered (end_line ∷ J) n ≡ covered J n
covered_end J n = place-other (is_cover_of n) end_line J refl

revoked_as_end : (s : Sort) (day : Day) (J : History) (n : ℕ) → revoked_as s day (end_line ∷ J) n ≡ revoked_as s day J n
revoked_as_end BatchA day J n = ap is_some (revoked_end day J n 0)
revoked_as_end BatchB day J n = ap is_some (revoked_end day J n 0)
revoked_as_end BatchE day J n = λ i. list_all (λ k. is_some (revoked_end day J n k i)) (entry_numbers day n)
revoked_as_end _ day J n = refl

settled_as_end : (s : Sort) (day : Day) (J : History) (n : ℕ) → settled_as s day (end_line ∷ J) n ≡ settled_as s day J n
settled_as_end Pay day J n = ap is_some (booked_end J n 0)
settled_as_end BatchA day J n = λ i. list_all (λ k. is_some (booked_end J n k i)) (credit_numbers day n)
settled_as_end BatchB day J n = λ i. is_some (place-other (is_all_of n) end_line J refl i) || is_some (covered_end J n i)
settled_as_end BatchC day J n = λ i. list_all (λ k. is_some (booked_end J n k i)) (entry_numbers day n)
settled_as_end BatchD day J n = refl
settled_as_end BatchE day J n = λ i. list_all (λ k. is_some (booked_end J n k i) || is_some (revoked_end day J n k i)) (entry_numbers day n)
settled_as_end _ day J n = refl

open_as_end : (s : Sort) (day : Day) (J : History) (n : ℕ) → open_as s day (end_line ∷ J) n ≡ open_as s day J n
unfolding clock cycle_ended
open_as_end BatchA day J n = refl
open_as_end BatchB day J n = refl
open_as_end BatchE day J n = refl
open_as_end BatchC day J n = refl
open_as_end Pay day J n = refl
open_as_end _ day J n = refl

pub phase_end : (day : Day) (J : History) (n : ℕ) → phase day (end_line ∷ J) n ≡ phase day J n
unfolding phase
phase_end day J n = λ i. first_case (
    (is_none (place-other (is_in_of n) end_line J refl i), phases.Untaken)
    ∷ (not (accepted_end J n i), phases.Rejected)
    ∷ (is_no_order (sort_of day n), phases.Settled)
    ∷ (is_some (closed_end J n i), phases.Closed)
    ∷ (revoked_as_end (sort_of day n) day J n i, phases.Revoked)
    ∷ (settled_as_end (sort_of day n) day J n i, phases.Settled)
    ∷ (is_a (sort_of day n) && is_some (covered_end J n i), phases.Covered)
    ∷ (is_some (asked_end i) && is_some (answered_end i), phases.Answered)
    ∷ (is_some (asked_end i), phases.Asking)
    ∷ (some_passes (nat_lt (clock_stays end_line J refl i)) (info_end day n), phases.Information)
    ∷ (some_passes (nat_lt (clock_stays end_line J refl i)) (earliest day n), phases.Waiting)
    ∷ (open_as_end (sort_of day n) day J n i, phases.Open)
    ∷ []) phases.Overdue
  where
    asked_end : asked (end_line ∷ J) n ≡ asked J n
    asked_end = place-other (is_ask_of n) end_line J refl

    answered_end : answered day (end_line ∷ J) n ≡ answered day J n
    answered_end = place-other (λ l. is_some (answer_taken day n l)) end_line J refl
