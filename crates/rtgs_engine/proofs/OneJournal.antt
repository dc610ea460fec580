-- Two journals with the same output are the same journal: both texts are read line by line, until a byte that begins no line.
use Rattle.std.proofs.Common.{◌≡◌, ℕ, suc, Bool, true, false, not, List, [], ◌∷◌, ◌++◌, length, refl, sym, ◌∙◌, ap, arith, append_assoc, append-nil}
use Rattle.std.specs.Prelude.{◌==◌}
use Rattle.std.specs.List.{flat_map}
use Rattle.batch_records.specs.DayRecord.{Day}
use Rattle.batch_records.specs.Sound.{is_sound}
use Rattle.batch_records.proofs.VersionFacts.{messages_at_most}
use Rattle.commit_journal.specs.declared.line.Move.{Move}
use Rattle.commit_journal.specs.Line.{Line, History}
use Rattle.commit_journal.specs.LineLaws.{FitMoves}
use Rattle.commit_journal.specs.TypedLines.{AreTyped, AreTypedMoves, IsTypedLine}
use Rattle.commit_journal.specs.Text.{line_text, journal_text}
use Rattle.commit_journal.proofs.SameTexts.{texts_tell_lines}
use Rattle.machine.specs.Legal.{IsLegal}
use Rattle.machine.specs.Records.Setup.{account_numbers}
use Rattle.settlement_laws.proofs.Base.Lists.{never}
use Rattle.status_messages.specs.declared.status.Status.{Status}
use Rattle.status_messages.specs.declared.status.Status.TheVariants as status
use Rattle.status_messages.specs.Statuses.{all_statuses}
use Rattle.status_messages.specs.StatusTexts.{status_text}
use Rattle.status_messages.specs.Telling.{statuses_text}
use Rattle.journal_replay.proofs.LinesFit.{line_fits}
use Rattle.rtgs_engine.specs.OutputLaws.{OutputsTell}
use Rattle.program_answers.specs.Answers.{ok_text}
use Rattle.rtgs_engine.specs.Outputs.{output}
use Rattle.closing_balances.specs.Closing.{balance_text, closing_text}

-- ---- lines, the oldest first, from this place on

abbrev lines_text : ℕ → List Line → List ℕ
lines_text place [] = []
lines_text place (l ∷ ls) = line_text place l ++ lines_text (suc place) ls

abbrev Typed : List Line → Type 0
Typed [] = Unit {0}
Typed (l ∷ ls) = IsTypedLine l × Typed ls

abbrev unroll : History → List Line → List Line
unroll [] ls = ls
unroll (l ∷ J) ls = unroll J (l ∷ ls)

abbrev roll : List Line → History → History
roll [] J = J
roll (l ∷ ls) J = roll ls (l ∷ J)

rolled : (J : History) (ls : List Line) → roll (unroll J ls) [] ≡ roll ls J
rolled [] ls = refl
rolled (l ∷ J) ls = rolled J (l ∷ ls)

text_unrolled : (J : History) (ls : List Line) → journal_text J ++ lines_text (suc (length J)) ls ≡ lines_text 1 (unroll J ls)
unfolding journal_text
text_unrolled [] ls = refl
text_unrolled (l ∷ J) ls = append_assoc (journal_text J) (line_text (suc (length J)) l) (lines_text (suc (length (l ∷ J))) ls) ∙ text_unrolled J (l ∷ ls)

typed_unrolled : (J : History) (ls : List Line) → AreTyped J → Typed ls → Typed (unroll J ls)
typed_unrolled [] ls before typed = typed
typed_unrolled (l ∷ J) ls before typed = typed_unrolled J (l ∷ ls) before.1 (before.0, typed)

-- ---- lines of legal journals are such as the types can hold

moves_typed : (ms : List Move) → FitMoves ms → AreTypedMoves ms
moves_typed [] fit = tt
moves_typed (m ∷ ms) fit = (record { debit = omega (arith, fit.0.debit_to); credit = omega (arith, fit.0.credit_to); amount = omega (arith, fit.0.amount_to) }, moves_typed ms fit.1)

pub legal_typed : (day : Day) → is_sound day ≡ true → (J : History) → IsLegal day J → AreTyped J
legal_typed day sound [] legal = tt
legal_typed day sound (l ∷ J) legal =
    let fits = line_fits day sound J l legal in
    let most = messages_at_most day.version in
    (record { msg = omega (arith, fits.msg, most); entry = omega (arith, fits.entry); count = omega (arith, fits.count); moves = moves_typed l.moves fits.moves }, legal_typed day sound J legal.0)

-- ---- bytes that don't begin with J

abbrev begins_otherwise : List ℕ → Bool
begins_otherwise [] = true
begins_otherwise (b ∷ bytes) = not (b == 74)

line_begins : (place : ℕ) (l : Line) (a b : List ℕ) → begins_otherwise ((line_text place l ++ a) ++ b) ≡ false
unfolding line_text
line_begins place l a b = refl

each_begins : {X : Type 0} (f : X → List ℕ) → ((x : X) (a b : List ℕ) → begins_otherwise ((f x ++ a) ++ b) ≡ true) →
    (xs : List X) (rest : List ℕ) → begins_otherwise rest ≡ true → begins_otherwise (flat_map f xs ++ rest) ≡ true
each_begins f h [] rest g = g
each_begins f h (x ∷ xs) rest g = h x (flat_map f xs) rest

status_begins : (s : Status) (a b : List ℕ) → begins_otherwise ((status_text s ++ a) ++ b) ≡ true
unfolding status_text
status_begins (status.Turn place to turn msg from id entry reason) a b = refl
status_begins (status.Moved place to debit account amount) a b = refl

-- what stands after the lines of a journal
abbrev behind : Day → History → List ℕ
behind day J = statuses_text day J ++ closing_text day J

behind_begins : (day : Day) (J : History) → begins_otherwise (behind day J) ≡ true
behind_begins day J =
    each_begins status_text status_begins (all_statuses day J) (closing_text day J)
    (each_begins (balance_text day J) (λ x a b. refl) (account_numbers day) (ok_text (length J)) refl)

-- ---- the same text, the same lines

same_lines : (place : ℕ) (xs ys : List Line) (r s : List ℕ) → Typed xs → Typed ys → begins_otherwise r ≡ true → begins_otherwise s ≡ true →
    lines_text place xs ++ r ≡ lines_text place ys ++ s → xs ≡ ys
same_lines place [] [] r s tx ty hr hs e = refl
same_lines place [] (y ∷ ys) r s tx ty hr hs e = never (begins_otherwise r) hr (ap begins_otherwise e ∙ line_begins place y (lines_text (suc place) ys) s)
same_lines place (x ∷ xs) [] r s tx ty hr hs e = never (begins_otherwise s) hs (ap begins_otherwise (sym e) ∙ line_begins place x (lines_text (suc place) xs) r)
same_lines place (x ∷ xs) (y ∷ ys) r s tx ty hr hs e =
    let ex = append_assoc (line_text place x) (lines_text (suc place) xs) r in
    let ey = append_assoc (line_text place y) (lines_text (suc place) ys) s in
    let first = texts_tell_lines place x y (lines_text (suc place) xs ++ r) (lines_text (suc place) ys ++ s) tx.0 ty.0 (sym ex ∙ e ∙ ey) in
    ap (λ l. l ∷ xs) first.0 ∙ ap (λ ls. y ∷ ls) (same_lines (suc place) xs ys r s tx.1 ty.1 hr hs first.1)

journal_lines : (J : History) → journal_text J ≡ lines_text 1 (unroll J [])
journal_lines J = sym (append-nil (journal_text J)) ∙ text_unrolled J []

pub outputs_tell : OutputsTell
unfolding output
outputs_tell day J K typed_j typed_k e =
    let lines : unroll J [] ≡ unroll K [] = same_lines 1 (unroll J []) (unroll K []) (behind day J) (behind day K)
    (typed_unrolled J [] typed_j tt) (typed_unrolled K [] typed_k tt) (behind_begins day J) (behind_begins day K)
    (sym (ap (λ t. t ++ behind day J) (journal_lines J)) ∙ e ∙ ap (λ t. t ++ behind day K) (journal_lines K)) in
    sym (rolled J []) ∙ ap (λ ls. roll ls []) lines ∙ rolled K []
