-- What is told of a want.
use Rattle.std.proofs.Common.{◌≡◌, ℕ, ◌-◌, ◌≤◌, ◌∷◌, List, Option, Some, None, true, is_some, length, refl, sym, ap, subst, ◌∙◌, arith}
use Rattle.std.specs.Prelude.{is_none}
use Rattle.batch_records.specs.DayRecord.{Day}
use Rattle.commit_journal.specs.declared.line.Head.{Head}
use Rattle.commit_journal.specs.declared.line.Move.{Move}
use Rattle.commit_journal.specs.declared.line.Want.{Want}
use Rattle.commit_journal.specs.Kept.{Kept}
use Rattle.commit_journal.specs.Line.{History, Line}
use Rattle.commit_journal.specs.Histories.{Begins, oldest}
use Rattle.machine.specs.declared.answers.Why.{Why}
use Rattle.machine.specs.Making.Lines.{line_of}
use Rattle.machine.specs.Making.Reasons.{why_of}
use Rattle.settlement_laws.proofs.Wants.ReasonsMatchLines.{complement}
use Rattle.settle_floor.specs.Floors.{OnFloor}
use Rattle.lock_book.specs.declared.counted.Stepped.TheVariants.{Made, NotNow}
use Rattle.lock_book.specs.Steps.{Adds, Tells}
use Rattle.lock_book.proofs.Catching.{oldest-over}

no_line : (day : Day) (J : History) (want : Want) (why : Why) → why_of day J want ≡ Some why → line_of day J want ≡ None
no_line day J want why e = none (line_of day J want) (sym (complement day J want) ∙ ap is_some e)
  where
    none : (o : Option Line) → is_none o ≡ true → o ≡ None
    none None h = refl
    none (Some l) h = cc

pub tells_why : (day same : Day) (old new : OnFloor) (want : Want) (why : Why) (P : History) (seen : ℕ) → same ≡ day → why_of same old.journal.history want ≡ Some why → new ≡ old → seen ≡ length old.journal.history → Tells day want P new.journal.history (NotNow seen why)
tells_why day same old new want why P seen is reason stays count =
    subst (λ (f : OnFloor). Tells day want P f.journal.history (NotNow seen why)) (sym stays)
    (subst (λ (d : Day). Tells d want P old.journal.history (NotNow seen why)) is (count, no_line same old.journal.history want why reason, reason))

same_first : (l m : Line) (P Q : History) → l ∷ P ≡ m ∷ Q → l ≡ m
same_first l m P Q e = cc

-- the line that the journal J gives by its place is the newest
newest : (old new : OnFloor) (l : Line) (head : Head) (moves : List Move) (place : ℕ) (J : Kept) → new.journal.history ≡ l ∷ old.journal.history → place ≡ length new.journal.history
    → J ≡ new.journal → oldest J.history place ≡ record { head = head; moves = moves } ∷ oldest J.history (place - 1) → record { head = head; moves = moves } ≡ l
newest old new l head moves place J e at k first =
    let count = ap (λ (j : Kept). length j.history) k in
    let low : length J.history ≤ place = omega (arith, at, count) in
    same_first (record { head = head; moves = moves }) l (oldest J.history (place - 1)) old.journal.history (sym first ∙ oldest-over J.history place low ∙ ap (λ (j : Kept). j.history) k ∙ e)

-- of one that has a line: the newest, which the journal J gives by its place
pub tells_made : (day same : Day) (old new : OnFloor) (want : Want) (l : Line) (head : Head) (moves : List Move) (P : History) (place : ℕ) (J : Kept) → same ≡ day → Begins P old.journal.history
    → line_of same old.journal.history want ≡ Some l → new.journal.history ≡ l ∷ old.journal.history → place ≡ length new.journal.history
    → J ≡ new.journal → oldest J.history place ≡ record { head = head; moves = moves } ∷ oldest J.history (place - 1) → Tells day want P new.journal.history (Made place head)
tells_made day same old new want l head moves P place J is b has e at k first =
    let it : Line = record { head = head; moves = moves } in
    let this : it ≡ l = newest old new l head moves place J e at k first in (
      old.journal.history,
      moves,
      b,
      e ∙ ap (λ (x : Line). x ∷ old.journal.history) (sym this),
      subst (λ (d : Day). line_of d old.journal.history want ≡ Some it) is (has ∙ ap Some (sym this)),
      at,
    )

-- and no other line was added
pub adds_made : (day same : Day) (old new : OnFloor) (want : Want) (l : Line) (head : Head) (moves : List Move) (before : History) (place : ℕ) (J : Kept) → same ≡ day → old.journal.history ≡ before
    → line_of same old.journal.history want ≡ Some l → new.journal.history ≡ l ∷ old.journal.history → place ≡ length new.journal.history
    → J ≡ new.journal → oldest J.history place ≡ record { head = head; moves = moves } ∷ oldest J.history (place - 1) → Adds day want before new.journal.history (Made place head)
adds_made day same old new want l head moves before place J is b has e at k first =
    let it : Line = record { head = head; moves = moves } in
    let this : it ≡ l = newest old new l head moves place J e at k first in (
      moves,
      e ∙ (λ j. sym this j ∷ b j),
      subst (λ (d : Day). line_of d before want ≡ Some it) is (subst (λ (B : History). line_of same B want ≡ Some it) b (has ∙ ap Some (sym this))),
    )
