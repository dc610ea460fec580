-- A party takes of lines of text the statuses that they are.
use Rattle.std.proofs.Common.{◌≡◌, ◌∙◌, ℕ, suc, Bool, true, false, cond, List, [], ◌∷◌, Option, Some, None, Result, Ok, Err, refl, sym, ap, subst}
use Rattle.std.specs.List.{cons_option}
use Rattle.batch_records.specs.DayRecord.{Day}
use Rattle.machine.specs.Words.{when}
use Rattle.status_messages.specs.declared.status.Status.{Status}
use Rattle.status_messages.specs.StatusGrammar.{most_told, read_status}
use Rattle.status_messages.specs.Statuses.{all_statuses}
use Rattle.as_client.specs.declared.view.ViewFault.{ViewFault}
use Rattle.as_client.specs.TextLaws.{LinesAgree, statuses_in}
use Rattle.as_client.specs.Views.{if_addressed, is_addressed, report_of, report_taken, take_lines, view, view_fault}
use Rattle.as_client.proofs.OwnLines.{journal_told}
use Rattle.as_client.proofs.Taking.{Passes, taking, taking_first}
use Rattle.as_client.proofs.ViewFacts.{views_agree}

lines_taken : (day : Day) (name : List ℕ) (k : ℕ) (ss : List Status) (lines : List (List ℕ)) → Passes day name ss (statuses_in (most_told day.version) lines) → take_lines day name k ss lines ≡ Ok (taking name ss (statuses_in (most_told day.version) lines))
unfolding take_lines taking Passes
lines_taken day name k ss [] h = refl
lines_taken day name k ss (line ∷ lines) h = by (read_status (most_told day.version) line) h (λ ys. lines_taken day name (suc k) ys lines)
  where
    rest : List Status
    rest = statuses_in (most_told day.version) lines

    judged : Status → Option ViewFault → Result (List Status) ℕ
    judged s o = elim o [
      | None ↦ take_lines day name (suc k) (s ∷ ss) lines
      | Some fault ↦ Err k
    ]

    step : Option Status → Result (List Status) ℕ
    step o = elim o [
      | None ↦ take_lines day name (suc k) ss lines
      | Some s ↦ judged s (view_fault day name ss s)
    ]

    of_status : (s : Status) (b : Bool) → is_addressed name s ≡ b → (is_addressed name s ≡ true → view_fault day name ss s ≡ None) → take_lines day name (suc k) (cond b (s ∷ ss) ss) lines ≡ Ok (taking name (cond b (s ∷ ss) ss) rest)
        → step (when b s) ≡ Ok (taking name (cond b (s ∷ ss) ss) rest)
    of_status s true e fine go = ap (judged s) (fine e) ∙ go
    of_status s false e fine go = go

    by : (o : Option Status) → Passes day name ss (cons_option o rest) → ((ys : List Status) → Passes day name ys rest → take_lines day name (suc k) ys lines ≡ Ok (taking name ys rest))
        → step (if_addressed name o) ≡ Ok (taking name ss (cons_option o rest))
    by None p go = go ss p
    by (Some s) p go = of_status s (is_addressed name s) refl p.0 (go (cond (is_addressed name s) (s ∷ ss) ss) p.1)

pub lines_agree : LinesAgree
unfolding view
lines_agree day J name lines sound legal e =
    ap (report_taken day name) (lines_taken day name 1 [] lines (subst (Passes day name []) (sym e) (journal_told day J name sound legal).passes))
    ∙ ap (λ xs. Ok (report_of day name (taking name [] xs))) e
    ∙ ap (λ ss. Ok (report_of day name ss)) (taking_first name (all_statuses day J))
    ∙ ap Ok (views_agree day J name sound legal).report
