-- A walk says a line of a legal journal.
use Rattle.std.proofs.Common.{◌≡◌, ◌∙◌, ℕ, zero, suc, ◌-◌, ◌<◌, ◌≤◌, Bool, List, [], ◌∷◌, Result, sym, ap, subst, arith, length, drop, length-drop}
use Rattle.std.specs.Prelude.{Ok, Err, OnOk}
use Rattle.outside_io.specs.Pieces.{SinkState}
use Rattle.outside_io.specs.Calls.{Puts}
use Rattle.batch_records.specs.DayRecord.{Day}
use Rattle.commit_journal.specs.Line.{Line, History}
use Rattle.commit_journal.specs.Histories.{oldest}
use Rattle.number_set.specs.Members.{has}
use Rattle.machine.specs.Legal.{IsLegal}
use Rattle.status_messages.specs.Statuses.{place_after}
use Rattle.status_messages.specs.StatusesAt.{newest_statuses, statuses_at}
use Rattle.status_messages.specs.LineTexts.{is_informed, is_settled_in, line_text, objected_batch, subject_of}
use Rattle.status_messages.specs.Telling.{texts}
use Rattle.status_messages.proofs.ToldTexts.{all_told}

pub same_put : {T E : Type 0} (old new : SinkState) (text all : List ℕ) (result : Result T E) → text ≡ all → Puts old new text result → Puts old new all result
same_put old new text all result same put = subst (λ (bytes : List ℕ). Puts old new bytes result) same put

-- what holds in any case holds where a call succeeds
pub on_any : {T E : Type 0} (result : Result T E) (P : Type 0) → P → OnOk result P
on_any (Ok value) P so = so
on_any (Err fault) P so = tt

-- ---- the history of a place

legal_drop : (day : Day) (k : ℕ) (H : History) → IsLegal day H → IsLegal day (drop k H)
legal_drop day zero H legal = legal
legal_drop day (suc k) [] legal = tt
legal_drop day (suc k) (l ∷ H) legal = legal_drop day k H legal.0

pub legal_oldest : (day : Day) (H : History) (place : ℕ) → IsLegal day H → IsLegal day (oldest H place)
legal_oldest day H place legal = legal_drop day (length H - place) H legal

pub place_is : (H : History) (place : ℕ) → 1 ≤ place → place ≤ length H → place_after (oldest H (place - 1)) ≡ place
place_is H place low high = let e = length-drop (length H - (place - 1)) H in omega (arith, e)

-- ---- what a walk tells of a legal journal

-- the text that is put together of the line at a place is that of its statuses
pub said : (day : Day) (H : History) (place : ℕ) (l : Line) (flags : List Bool) (b : ℕ) (before : Bool) → IsLegal day H → 1 ≤ place → place ≤ length H → oldest H place ≡ l ∷ oldest H (place - 1) →
    length day.accounts < length flags → ((a : ℕ) → has flags a ≡ is_informed day l.head a) →
    b ≡ objected_batch day l.head → before ≡ is_settled_in day (oldest H (place - 1)) (subject_of b l.head.msg) →
    line_text day (oldest H place) place l.head l.moves flags b before ≡ texts (statuses_at day H place)
said day H place l flags b before legal low high next len each named settled =
    let J = oldest H (place - 1) in
    let at = place_is H place low high in
    (λ i. line_text day (next i) (sym at i) l.head l.moves flags b (settled i))
    ∙ ap (λ x. line_text day (l ∷ J) (place_after J) l.head l.moves flags x (is_settled_in day J (subject_of x l.head.msg))) named
    ∙ all_told day J l flags (subst (IsLegal day) next (legal_oldest day H place legal)) len each
    ∙ ap (λ K. texts (newest_statuses day K)) (sym next)
