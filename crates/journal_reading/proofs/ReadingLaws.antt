-- The lines that a verdict counts, read one after another.
use Rattle.std.proofs.Common.{◌≡◌, ◌∙◌, ℕ, zero, suc, ◌<◌, ◌≤◌, Bool, true, false, ◌&&◌, List, ◌∷◌, length, Some, None, is_some, refl, sym, ap, subst, arith}
use Rattle.std.specs.Prelude.{if◌then◌else◌}
use Rattle.std.specs.Option.{option_map_or}
use Rattle.batch_records.specs.DayRecord.{Day}
use Rattle.batch_records.specs.Sound.{is_sound}
use Rattle.batch_records.specs.Versions.{most_messages}
use Rattle.commit_journal.specs.Line.{Line, History}
use Rattle.commit_journal.specs.LineGrammar.{read_line}
use Rattle.commit_journal.specs.FieldGrammar.{Read}
use Rattle.commit_journal.proofs.FieldLemmas.{some_is}
use Rattle.commit_journal.proofs.LineLemmas.{lines_are_read}
use Rattle.machine.specs.Legal.{IsLegal, is_complete}
use Rattle.machine.specs.Words.{is_empty}
use Rattle.journal_replay.specs.declared.judging.Verdict.TheVariants as verdicts
use Rattle.journal_replay.specs.Verdicts.{followed, longest, next_line, verdict}
use Rattle.journal_replay.proofs.Following.{follow_next, follow_stops, most_small, next_is}
use Rattle.journal_replay.proofs.LinesFit.{line_fits}
use Rattle.journal_reading.specs.Reading.{lines_in}

pub counted : (day : Day) (text : List ℕ) → lines_in (verdict day text) ≡ length (longest day text).0
unfolding verdict
counted day text = here (is_complete (longest day text).0 && is_empty (longest day text).1)
  where
    n : ℕ
    n = length (longest day text).0

    here : (b : Bool) → lines_in (if b then verdicts.Legal n else verdicts.Illegal (suc n)) ≡ n
    here true = refl
    here false = omega arith

-- what is followed has no fewer lines
pub grows : (n : ℕ) (day : Day) (J : History) (bytes : List ℕ) → length J ≤ length (followed n day J bytes).0
unfolding followed
grows zero day J bytes = omega arith
grows (suc n) day J bytes = here (next_line day J bytes) (λ y. grows n day (y.0 ∷ J) y.1)
  where
    here : (o : Read Line) → ((y : Line × List ℕ) → length (y.0 ∷ J) ≤ length (followed n day (y.0 ∷ J) y.1).0) → length J ≤ length (option_map_or (λ (read : Line × List ℕ). followed n day (read.0 ∷ J) read.1) o (J, bytes)).0
    here None longer = omega arith
    here (Some y) longer = let more : suc (length J) ≤ length (followed n day (y.0 ∷ J) y.1).0 = longer y in omega (arith, more)

-- a line is next, as there are more to come
pub there : (day : Day) (J : History) (bytes text : List ℕ) → followed (length bytes) day J bytes ≡ longest day text → length J < length (longest day text).0 → is_some (next_line day J bytes) ≡ true
there day J bytes text same fewer = here (next_line day J bytes) refl
  where
    here : (o : Read Line) → next_line day J bytes ≡ o → is_some o ≡ true
    here (Some y) e = refl
    here None e =
        let read : followed (length bytes) day J bytes ≡ (J, bytes) = follow_stops day J bytes e in
        let long : length (longest day text).0 ≡ length J = ap (λ (r : History × List ℕ). length r.0) (sym same ∙ read) in
        absurd (omega (arith, fewer, long))

-- all are read
pub all_read : (day : Day) (J : History) (bytes text : List ℕ) → followed (length bytes) day J bytes ≡ longest day text → length J ≡ length (longest day text).0 → (J, bytes) ≡ longest day text
all_read day J bytes text same all = here (next_line day J bytes) refl
  where
    here : (o : Read Line) → next_line day J bytes ≡ o → (J, bytes) ≡ longest day text
    here None e = sym (follow_stops day J bytes e) ∙ same
    here (Some y) e =
        let grown : suc (length J) ≤ length (followed (length y.1) day (y.0 ∷ J) y.1).0 = grows (length y.1) day (y.0 ∷ J) y.1 in
        let long : length (followed (length y.1) day (y.0 ∷ J) y.1).0 ≡ length (longest day text).0 = ap (λ (r : History × List ℕ). length r.0) (sym (follow_next day J bytes y e) ∙ same) in
        absurd (omega (arith, grown, long, all))

-- what is read of the next line
pub reads : (day : Day) (J : History) (bytes : List ℕ) → is_sound day ≡ true → IsLegal day J → is_some (next_line day J bytes) ≡ true →
    (l : Line) × (rest : List ℕ) × (next_line day J bytes ≡ Some (l, rest)) × (read_line (most_messages day.version) (suc (length J)) bytes ≡ Some (l, rest)) × IsLegal day (l ∷ J)
reads day J bytes sound legal h = here (next_line day J bytes) refl h
  where
    here : (o : Read Line) → next_line day J bytes ≡ o → is_some o ≡ true → (l : Line) × (rest : List ℕ) × (next_line day J bytes ≡ Some (l, rest)) × (read_line (most_messages day.version) (suc (length J)) bytes ≡ Some (l, rest)) × IsLegal day (l ∷ J)
    here None e h = cc
    here (Some y) e h =
        let is = next_is day J bytes y e in
        (y.0, y.1, e, ap (read_line (most_messages day.version) (suc (length J))) is.text ∙ lines_are_read (most_messages day.version) (suc (length J)) y.0 y.1 (most_small day) (line_fits day sound J y.0 (legal, is.made)), (legal, is.made))

-- the line that was read is the machine's, as it is known that one is next
pub record ReadsMachines (day : Day) (J : History) (bytes : List ℕ) (l : Line) (rest : List ℕ) : Type 0 where
  pub next : next_line day J bytes ≡ Some (l, rest)
  pub legal : IsLegal day (l ∷ J)

pub read_is : (day : Day) (J : History) (bytes : List ℕ) (most place : ℕ) (l : Line) (rest : List ℕ) → is_sound day ≡ true → IsLegal day J → is_some (next_line day J bytes) ≡ true → most ≡ most_messages day.version → place ≡ suc (length J)
    → read_line most place bytes ≡ Some (l, rest) → ReadsMachines day J bytes l rest
read_is day J bytes most place l rest sound legal h highest at read =
    let is = reads day J bytes sound legal h in
    let same : (is.0, is.1) ≡ (l, rest) = some_is (is.0, is.1) (l, rest) (sym is.3 ∙ (λ i. read_line (sym highest i) (sym at i) bytes) ∙ read) in
    subst (λ (y : Line × List ℕ). ReadsMachines day J bytes y.0 y.1) same (record { next = is.2; legal = is.4 })

pub never_unread : (day : Day) (J : History) (bytes : List ℕ) (most place : ℕ) → is_sound day ≡ true → IsLegal day J → is_some (next_line day J bytes) ≡ true → most ≡ most_messages day.version → place ≡ suc (length J)
    → read_line most place bytes ≡ None → ⊥
never_unread day J bytes most place sound legal h highest at read =
    let is = reads day J bytes sound legal h in
    none_some (read_line (most_messages day.version) (suc (length J)) bytes) (is.0, is.1) ((λ i. read_line (sym highest i) (sym at i) bytes) ∙ read) is.3
  where
    none_some : (o : Read Line) (x : Line × List ℕ) → o ≡ None → o ≡ Some x → ⊥
    none_some None x h k = cc
    none_some (Some y) x h k = cc
