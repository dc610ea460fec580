-- What a line does to a view.
use Rattle.std.proofs.Common.{◌≡◌, ◌∙◌, ℕ, suc, ◌+◌, Bool, true, false, List, [], ◌∷◌, Option, Some, None, Result, Ok, Err, refl, sym, ap, arith}
use Rattle.std.specs.Prelude.{is_none}
use Rattle.std.proofs.lemmas.Bool.{and_parts}
use Rattle.commit_journal.proofs.FieldLemmas.{some_is}
use Rattle.machine.specs.Words.{when}
use Rattle.status_messages.specs.StatusGrammar.{read_status}
use Rattle.batch_records.specs.DayRecord.{Day}
use Rattle.status_messages.specs.StatusGrammar.{most_told}
use Rattle.status_messages.specs.declared.status.Status.{Status}
use Rattle.as_client.specs.Knowing.{Known, Knows}
use Rattle.as_client.specs.Views.{addressed, if_addressed, is_addressed, report_of, report_taken, take_lines, view, view_fault}
use Rattle.as_client.specs.ViewAnswers.{are_taken}
use Rattle.as_client.specs.declared.view.ViewFault.{ViewFault}
use Rattle.program_answers.specs.Answers.{done, illegal}
use Rattle.rtgs_engine.specs.Answers.{answer_of_view}
use Rattle.rtgs_engine.specs.Following.{TookLine, RefusesLine, TookAll, OnTheWay}

-- what is taken with the next line, which is this status for the party or none
abbrev with_next : Day → List ℕ → ℕ → List Status → List (List ℕ) → Option Status → Result (List Status) ℕ
with_next day name k ss lines o = elim o [
  | None ↦ take_lines day name (suc k) ss lines
  | Some s ↦ elim (view_fault day name ss s) [
    | None ↦ take_lines day name (suc k) (s ∷ ss) lines
    | Some fault ↦ Err k
  ]
]

next_is : (day : Day) (name : List ℕ) (k : ℕ) (ss : List Status) (line : List ℕ) (lines : List (List ℕ)) → take_lines day name k ss (line ∷ lines) ≡ with_next day name k ss lines (addressed (most_told day.version) name line)
unfolding take_lines
next_is day name k ss line lines = refl

-- a line that is no status for the party
pub line_passed : (day : Day) (name : List ℕ) (ss : List Status) (line : List ℕ) (view : Known) → None ≡ addressed (most_told day.version) name line → Knows day name ss view → TookLine day name ss line view 0
line_passed day name ss line view none knows = record {
  now = ss;
  knows = knows;
  count = omega arith;
  goes_on = λ k lines. next_is day name k ss line lines ∙ ap (with_next day name k ss lines) (sym none);
}

-- a status that the view takes
pub line_taken : (day : Day) (name : List ℕ) (ss : List Status) (line : List ℕ) (view : Known) (s : Status) → Some s ≡ addressed (most_told day.version) name line → view_fault day name ss s ≡ None → Knows day name (s ∷ ss) view → TookLine day name ss line view 1
line_taken day name ss line view s is fits knows = record {
  now = s ∷ ss;
  knows = knows;
  count = omega arith;
  goes_on = λ k lines.
      next_is day name k ss line lines
      ∙ ap (with_next day name k ss lines) (sym is)
      ∙ ap (λ (o : Option ViewFault). elim o as (λ _. Result (List Status) ℕ) [ None ↦ take_lines day name (suc k) (s ∷ ss) lines | Some fault ↦ Err k ]) fits;
}

-- a status that it refuses
pub line_refused : (day : Day) (name : List ℕ) (ss : List Status) (line : List ℕ) (s : Status) (fault : ViewFault) → Some s ≡ addressed (most_told day.version) name line → view_fault day name ss s ≡ Some fault → RefusesLine day name ss line
line_refused day name ss line s fault is refuses = λ k lines.
    next_is day name k ss line lines
    ∙ ap (with_next day name k ss lines) (sym is)
    ∙ ap (λ (o : Option ViewFault). elim o as (λ _. Result (List Status) ℕ) [ None ↦ take_lines day name (suc k) (s ∷ ss) lines | Some f ↦ Err k ]) refuses

-- who a status is told that was taken from a line
pub told_to : (most : ℕ) (name line : List ℕ) (s : Status) → Some s ≡ addressed most name line → is_addressed name s ≡ true
told_to most name line s is = here (read_status most line) refl
  where
    passed : (t : Bool) (x : Status) → is_addressed name x ≡ t → Some s ≡ when (is_addressed name x) x → is_addressed name s ≡ true
    passed true x e h =
        let k : Some s ≡ Some x = h ∙ ap (λ (b : Bool). when b x) e in
        ap (is_addressed name) (some_is s x k) ∙ e
    passed false x e h = let k : Some s ≡ None = h ∙ ap (λ (b : Bool). when b x) e in absurd (cc k)

    here : (o : Option Status) → read_status most line ≡ o → is_addressed name s ≡ true
    here None e = let k : Some s ≡ None = is ∙ ap (if_addressed name) e in absurd (cc k)
    here (Some x) e = passed (is_addressed name x) x refl (is ∙ ap (if_addressed name) e)

none_is : {X : Type 0} (o : Option X) → is_none o ≡ true → o ≡ None
none_is None h = refl
none_is (Some x) h = cc

-- a view that took a status didn't refuse it
pub took_well : (day : Day) (name : List ℕ) (ss : List Status) (s : Status) (view : Known) → Knows day name (s ∷ ss) view → view_fault day name ss s ≡ None
unfolding are_taken
took_well day name ss s view knows = none_is _ (and_parts _ _ (and_parts _ _ knows.taken).0).1

none_left : (day : Day) (name : List ℕ) (k : ℕ) (ss : List Status) → take_lines day name k ss [] ≡ Ok ss
unfolding take_lines
none_left day name k ss = refl

-- ---- along the lines

module _ (day : Day) (name : List ℕ) (lines : List (List ℕ)) where
  pub starts : (view : Known) → Knows day name [] view → OnTheWay day name lines lines view 0 0
  starts view knows = record { now = []; knows = knows; count_is = refl; same = refl }

  pub goes_on : (left after : List (List ℕ)) (line : List ℕ) (before view : Known) (number count more : ℕ) → left ≡ line ∷ after → (way : OnTheWay day name lines left before number count) → TookLine day name way.now line view more
      → OnTheWay day name lines after view (number + 1) (count + more)
  goes_on left after line before view number count more is way took =
      let next : suc (number + 1) ≡ suc (suc number) = omega arith in
      let had = way.count_is in
      let has = took.count in
      record {
        now = took.now;
        knows = took.knows;
        count_is = omega (arith, had, has);
        same = ap (λ (k : ℕ). take_lines day name k took.now after) next ∙ sym (took.goes_on (suc number) after) ∙ ap (take_lines day name (suc number) way.now) (sym is) ∙ way.same;
      }

  pub stops : (left after : List (List ℕ)) (line : List ℕ) (before : Known) (number count : ℕ) → left ≡ line ∷ after → (way : OnTheWay day name lines left before number count) → RefusesLine day name way.now line
      → take_lines day name 1 [] lines ≡ Err (number + 1)
  stops left after line before number count is way refuses =
      let next : suc number ≡ number + 1 = omega arith in
      sym way.same ∙ ap (take_lines day name (suc number) way.now) is ∙ refuses (suc number) after ∙ ap (λ (k : ℕ). Err k) next

  pub ends : (left : List (List ℕ)) (view : Known) (number count : ℕ) → left ≡ [] → OnTheWay day name lines left view number count → TookAll day name lines view count
  ends left view number count none way = record {
    now = way.now;
    knows = way.knows;
    count_is = way.count_is;
    taken = sym way.same ∙ ap (take_lines day name (suc number) way.now) none ∙ none_left day name (suc number) way.now;
  }

-- ---- the answer

pub view_done : (day : Day) (name : List ℕ) (lines : List (List ℕ)) (ss : List Status) → take_lines day name 1 [] lines ≡ Ok ss → answer_of_view (view day lines name) ≡ done (report_of day name ss)
unfolding view
view_done day name lines ss e = ap (λ r. answer_of_view (report_taken day name r)) e

pub view_wrong : (day : Day) (name : List ℕ) (lines : List (List ℕ)) (k : ℕ) → take_lines day name 1 [] lines ≡ Err k → answer_of_view (view day lines name) ≡ illegal k
unfolding view
view_wrong day name lines k e = ap (λ r. answer_of_view (report_taken day name r)) e
