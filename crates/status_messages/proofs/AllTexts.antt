-- The texts of what a journal tells, line by line.
use Rattle.std.proofs.Common.{◌≡◌, ◌∙◌, ℕ, zero, suc, ◌+◌, ◌-◌, ◌<◌, ◌≤◌, List, [], ◌∷◌, ◌++◌, length, drop, sym, ap, arith, append_assoc, append-nil, refl}
use Rattle.std.proofs.lemmas.Grind.{flat_map-append}
use Rattle.std.proofs.lemmas.List.{drop_all}
use Rattle.batch_records.specs.DayRecord.{Day}
use Rattle.commit_journal.specs.Line.{Line, History}
use Rattle.commit_journal.specs.Histories.{oldest}
use Rattle.status_messages.specs.StatusTexts.{status_text}
use Rattle.status_messages.specs.Statuses.{all_statuses, statuses}
use Rattle.status_messages.specs.StatusesAt.{newest_statuses, statuses_at}
use Rattle.status_messages.specs.Telling.{statuses_text, texts}

pub statuses_none : (day : Day) (J : History) → [] ≡ statuses_text day (oldest J 0)
unfolding all_statuses
statuses_none day J = sym (ap (statuses_text day) (drop_all (length J - 0) J (omega arith)))

-- a line's texts after those of the lines before it
one_more : (day : Day) (J : History) (l : Line) → statuses_text day J ++ texts (statuses day J l) ≡ statuses_text day (l ∷ J)
unfolding all_statuses
one_more day J l = sym (flat_map-append status_text (all_statuses day J) (statuses day J l))

pub next_in : (newer : ℕ) (J : History) → newer < length J → (l : Line) × (drop newer J ≡ l ∷ drop (suc newer) J)
next_in newer [] inside = absurd (omega arith)
next_in zero (l ∷ J) inside = (l, refl)
next_in (suc newer) (l ∷ J) inside = next_in newer J (omega arith)

pub statuses_more : (day : Day) (J : History) (before : ℕ) → before < length J → statuses_text day (oldest J before) ++ texts (statuses_at day J (before + 1)) ≡ statuses_text day (oldest J (before + 1))
statuses_more day J before inside =
    let newer : ℕ = length J - (before + 1) in
    let next = next_in newer J (omega arith) in
    let back : suc newer ≡ length J - before = omega arith in
    let is : drop newer J ≡ next.0 ∷ oldest J before = next.1 ∙ ap (λ (k : ℕ). next.0 ∷ drop k J) back in
    ap (λ (K : History). statuses_text day (oldest J before) ++ texts (newest_statuses day K)) is
    ∙ one_more day (oldest J before) next.0
    ∙ sym (ap (statuses_text day) is)

statuses_front : (day : Day) (newer : ℕ) (J : History) → (rest : List ℕ) × (statuses_text day (drop newer J) ++ rest ≡ statuses_text day J)
statuses_front day zero J = ([], append-nil (statuses_text day J))
statuses_front day (suc newer) [] = ([], append-nil (statuses_text day []))
statuses_front day (suc newer) (l ∷ J) =
    let more = statuses_front day newer J in
    let mine = texts (statuses day J l) in
    (more.0 ++ mine, sym (append_assoc (statuses_text day (drop newer J)) more.0 mine) ∙ ap (λ (text : List ℕ). text ++ mine) more.1 ∙ one_more day J l)

-- the texts of the lines before, those of the one there, and the rest
pub statuses_parts : (day : Day) (J : History) (before : ℕ) → before < length J → (rest : List ℕ) × (statuses_text day (oldest J before) ++ (texts (statuses_at day J (before + 1)) ++ rest) ≡ statuses_text day J)
statuses_parts day J before inside =
    let more = statuses_front day (length J - (before + 1)) J in
    (more.0, sym (append_assoc (statuses_text day (oldest J before)) (texts (statuses_at day J (before + 1))) more.0) ∙ ap (λ (text : List ℕ). text ++ more.0) (statuses_more day J before inside) ∙ more.1)

pub statuses_end : (day : Day) (J : History) (before : ℕ) → length J ≤ before → statuses_text day (oldest J before) ≡ statuses_text day J
statuses_end day J before past = let none : length J - before ≡ 0 = omega arith in ap (λ (newer : ℕ). statuses_text day (drop newer J)) none
