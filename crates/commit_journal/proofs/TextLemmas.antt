-- The text of a journal, line by line.
use Rattle.std.proofs.Common.{◌≡◌, ◌∙◌, ℕ, zero, suc, ◌+◌, ◌-◌, ◌<◌, ◌≤◌, List, [], ◌∷◌, ◌++◌, length, drop, sym, ap, arith, append_assoc, append-nil, length-drop}
use Rattle.std.proofs.lemmas.List.{drop_all}
use Rattle.commit_journal.specs.Line.{Line, History}
use Rattle.commit_journal.specs.Histories.{oldest}
use Rattle.commit_journal.specs.Text.{line_text, journal_text}

pub journal_none : (J : History) → [] ≡ journal_text (oldest J 0)
unfolding journal_text
journal_none J = sym (ap journal_text (drop_all (length J - 0) J (omega arith)))

-- the lines before, and one more
pub journal_more : (J : History) (before : ℕ) (l : Line) → before < length J → oldest J (before + 1) ≡ l ∷ oldest J (before + 1 - 1) → journal_text (oldest J before) ++ line_text (before + 1) l ≡ journal_text (oldest J (before + 1))
unfolding journal_text
journal_more J before l inside next =
    let place : before + 1 ≡ suc (length (oldest J before)) = omega (arith, length-drop (length J - before) J) in
    let same : before ≡ before + 1 - 1 = omega arith in
    ap (λ (p : ℕ). journal_text (oldest J before) ++ line_text p l) place ∙ ap (λ (i : ℕ). journal_text (l ∷ oldest J i)) same ∙ sym (ap journal_text next)

journal_front : (newer : ℕ) (J : History) → (rest : List ℕ) × (journal_text (drop newer J) ++ rest ≡ journal_text J)
unfolding journal_text
journal_front zero J = ([], append-nil (journal_text J))
journal_front (suc newer) [] = ([], append-nil [])
journal_front (suc newer) (l ∷ J) =
    let more = journal_front newer J in
    let mine = line_text (suc (length J)) l in
    (more.0 ++ mine, sym (append_assoc (journal_text (drop newer J)) more.0 mine) ∙ ap (λ (text : List ℕ). text ++ mine) more.1)

-- the lines before, the one there, and the rest
pub journal_parts : (J : History) (before : ℕ) (l : Line) → before < length J → oldest J (before + 1) ≡ l ∷ oldest J (before + 1 - 1) → (rest : List ℕ) × (journal_text (oldest J before) ++ (line_text (before + 1) l ++ rest) ≡ journal_text J)
journal_parts J before l inside next =
    let more = journal_front (length J - (before + 1)) J in
    (more.0, sym (append_assoc (journal_text (oldest J before)) (line_text (before + 1) l) more.0) ∙ ap (λ (text : List ℕ). text ++ more.0) (journal_more J before l inside next) ∙ more.1)

pub journal_all : (J : History) (before : ℕ) → length J ≤ before → journal_text (oldest J before) ≡ journal_text J
journal_all J before past = let none : length J - before ≡ 0 = omega arith in ap (λ (newer : ℕ). journal_text (drop newer J)) none
