-- The machine's lines at the front of a text, followed one after another.
use Rattle.std.proofs.Common.{◌≡◌, ◌∙◌, ℕ, zero, suc, ◌<◌, ◌≤◌, ◌+◌, ◌-◌, Bool, true, false, ◌&&◌, List, [], ◌∷◌, ◌++◌, length, drop, Some, None, is_some, refl, sym, ap, arith}
use Rattle.std.specs.Prelude.{if◌then◌else◌}
use Rattle.std.specs.Option.{option_map_or}
use Rattle.std.proofs.Math.Seq.{drop-append_seam}
use Rattle.std.proofs.lemmas.Bool.{false≢true}
use Rattle.std.proofs.lemmas.List.{length-append}
use Rattle.batch_records.specs.DayRecord.{Day}
use Rattle.commit_journal.specs.Line.{Line, History}
use Rattle.commit_journal.specs.Histories.{oldest}
use Rattle.commit_journal.specs.FieldGrammar.{Read}
use Rattle.machine.specs.Legal.{is_complete}
use Rattle.machine.specs.Words.{is_empty}
use Rattle.journal_reading.specs.Reading.{lines_in}
use Rattle.journal_replay.specs.declared.judging.Verdict.TheVariants as verdicts
use Rattle.journal_replay.specs.Verdicts.{followed, longest, next_line, verdict}
use Rattle.journal_replay.proofs.Following.{follow_next, follow_stops}
use Rattle.day_reasons.specs.Ends.{is_whole}

pub counted : (day : Day) (text : List ℕ) → lines_in (verdict day text) ≡ length (longest day text).0
unfolding verdict
counted day text = here (is_complete (longest day text).0 && is_empty (longest day text).1)
  where
    n : ℕ
    n = length (longest day text).0

    here : (b : Bool) → lines_in (if b then verdicts.Legal n else verdicts.Illegal (suc n)) ≡ n
    here true = refl
    here false = omega arith

-- nothing stands behind the lines of a legal journal
pub whole_ends : (day : Day) (text : List ℕ) → is_whole (verdict day text) ≡ true → is_empty (longest day text).1 ≡ true
unfolding verdict
whole_ends day text = here (is_complete (longest day text).0) (is_empty (longest day text).1)
  where
    n : ℕ
    n = length (longest day text).0

    here : (a b : Bool) → is_whole (if a && b then verdicts.Legal n else verdicts.Illegal (suc n)) ≡ true → b ≡ true
    here true true h = refl
    here true false h = absurd (false≢true h)
    here false b h = absurd (false≢true h)

-- what is followed begins with the lines that there are
pub begins : (n : ℕ) (day : Day) (J : History) (bytes : List ℕ) → (more : History) × ((followed n day J bytes).0 ≡ more ++ J)
unfolding followed
begins zero day J bytes = ([], refl)
begins (suc n) day J bytes = here (next_line day J bytes) (λ y. begins n day (y.0 ∷ J) y.1)
  where
    longer : (x : Line) (K : History) → (more : History) × (K ≡ more ++ (x ∷ J)) → (more : History) × (K ≡ more ++ J)
    longer x K (more, e) = (more ++ (x ∷ []), e ∙ sym (append_one more x J))
      where
        append_one : (more : History) (x : Line) (J : History) → (more ++ (x ∷ [])) ++ J ≡ more ++ (x ∷ J)
        append_one [] x J = refl
        append_one (y ∷ more) x J = ap (λ (t : History). y ∷ t) (append_one more x J)

    here : (o : Read Line) → ((y : Line × List ℕ) → (more : History) × ((followed n day (y.0 ∷ J) y.1).0 ≡ more ++ (y.0 ∷ J))) → (more : History) × ((option_map_or (λ (read : Line × List ℕ). followed n day (read.0 ∷ J) read.1) o (J, bytes)).0 ≡ more ++ J)
    here None rest = ([], refl)
    here (Some y) rest = longer y.0 (followed n day (y.0 ∷ J) y.1).0 (rest y)

-- so it has no fewer
pub grows : (n : ℕ) (day : Day) (J : History) (bytes : List ℕ) → length J ≤ length (followed n day J bytes).0
grows n day J bytes =
    let b = begins n day J bytes in
    let long : length (followed n day J bytes).0 ≡ length b.0 + length J = ap length b.1 ∙ length-append b.0 J in
    omega (arith, long)

-- and those are its oldest ones
pub oldest_are : (day : Day) (J : History) (bytes text : List ℕ) (place : ℕ) → followed (length bytes) day J bytes ≡ longest day text → place ≡ length J → oldest (longest day text).0 place ≡ J
oldest_are day J bytes text place same at =
    let b = begins (length bytes) day J bytes in
    let whole : (longest day text).0 ≡ b.0 ++ J = ap (λ (r : History × List ℕ). r.0) (sym same) ∙ b.1 in
    let long : length (b.0 ++ J) ≡ length b.0 + length J = length-append b.0 J in
    let cut : length (b.0 ++ J) - place ≡ length b.0 = omega (arith, long, at) in
    ap (λ (K : History). oldest K place) whole ∙ ap (λ (k : ℕ). drop k (b.0 ++ J)) cut ∙ drop-append_seam b.0 J

-- a line is next, as there are more to come
pub there : (day : Day) (J : History) (bytes text : List ℕ) → followed (length bytes) day J bytes ≡ longest day text → length J < length (longest day text).0 → is_some (next_line day J bytes) ≡ true
there day J bytes text same fewer = here (next_line day J bytes) refl
  where
    here : (o : Read Line) → next_line day J bytes ≡ o → is_some o ≡ true
    here (Some y) e = refl
    here None e =
        let read : followed (length bytes) day J bytes ≡ (J, bytes) = follow_stops day J bytes e in
        let long : length (longest day text).0 ≡ length J = ap (λ (r : History × List ℕ). length r.0) (sym same ∙ read) in
        absurd (omega (arith, fewer, long))

-- all are read
pub all_read : (day : Day) (J : History) (bytes text : List ℕ) → followed (length bytes) day J bytes ≡ longest day text → length J ≡ length (longest day text).0 → (J, bytes) ≡ longest day text
all_read day J bytes text same all = here (next_line day J bytes) refl
  where
    here : (o : Read Line) → next_line day J bytes ≡ o → (J, bytes) ≡ longest day text
    here None e = sym (follow_stops day J bytes e) ∙ same
    here (Some y) e =
        let grown : suc (length J) ≤ length (followed (length y.1) day (y.0 ∷ J) y.1).0 = grows (length y.1) day (y.0 ∷ J) y.1 in
        let long : length (followed (length y.1) day (y.0 ∷ J) y.1).0 ≡ length (longest day text).0 = ap (λ (r : History × List ℕ). length r.0) (sym (follow_next day J bytes y e) ∙ same) in
        absurd (omega (arith, grown, long, all))
