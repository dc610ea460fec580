-- What the lines of a journal after its first ones come to, line by line.
use Rattle.std.proofs.Common.{◌≡◌, ◌∙◌, ◌≤◌, ◌<◌, ℕ, suc, Bool, true, false, List, [], ◌∷◌, ◌++◌, refl, sym, ap, arith, append_assoc, append-nil, length}
use Rattle.std.specs.Prelude.{if◌then◌else◌, nat_le}
use Rattle.std.proofs.lemmas.Bool.{le-leb, lt-leb}
use Rattle.batch_records.specs.DayRecord.{Day}
use Rattle.commit_journal.specs.Histories.{Begins}
use Rattle.commit_journal.specs.Line.{History, Line}
use Rattle.commit_journal.specs.Text.{journal_text, line_text}
use Rattle.status_messages.specs.Statuses.{statuses}
use Rattle.status_messages.specs.Telling.{texts}
use Rattle.live_day.specs.Told.{told_behind, told_line}
use Rattle.live_day.proofs.MarkedLines.{Adds, adds_append, adds_nothing}

-- of the lines of a journal after its first i, where this is said of each
abbrev pub behind_by : (History → Line → List ℕ) → ℕ → History → List ℕ
behind_by say i [] = []
behind_by say i (l ∷ J) = behind_by say i J ++ (if nat_le i (length J) then say J l else [])

-- of all lines
abbrev pub said_by : (History → Line → List ℕ) → History → List ℕ
said_by say [] = []
said_by say (l ∷ J) = said_by say J ++ say J l

module _ (say : History → Line → List ℕ) where
  if_reached : (i n : ℕ) (text : List ℕ) → i ≤ n → (if nat_le i n then text else []) ≡ text
  if_reached i n text l = ap (λ b. if b then text else []) (le-leb i n l)

  if_before : (i n : ℕ) (text : List ℕ) → n < i → (if nat_le i n then text else []) ≡ []
  if_before i n text l = ap (λ b. if b then text else []) (lt-leb i n l)

  behind_none : (i : ℕ) (J : History) → length J ≤ i → behind_by say i J ≡ []
  behind_none i [] l = refl
  behind_none i (h ∷ J) l = ap (λ t. t ++ (if nat_le i (length J) then say J h else [])) (behind_none i J (omega (arith, l))) ∙ if_before i (length J) (say J h) (omega (arith, l))

  long_front : (more J : History) → length J ≤ length (more ++ J)
  long_front [] J = omega arith
  long_front (h ∷ more) J = let l = long_front more J in omega (arith, l)

  -- those of a longer journal are those of its beginning, and then those after it
  said_then : (more J : History) → said_by say (more ++ J) ≡ said_by say J ++ behind_by say (length J) (more ++ J)
  said_then [] J = sym (append-nil (said_by say J)) ∙ ap (λ t. said_by say J ++ t) (sym (behind_none (length J) J (omega arith)))
  said_then (h ∷ more) J =
      ap (λ t. t ++ say (more ++ J) h) (said_then more J)
      ∙ append_assoc (said_by say J) (behind_by say (length J) (more ++ J)) (say (more ++ J) h)
      ∙ ap (λ t. said_by say J ++ (behind_by say (length J) (more ++ J) ++ t)) (sym (if_reached (length J) (length (more ++ J)) (say (more ++ J) h) (long_front more J)))

  pub said_on : (J K : History) → Begins J K → said_by say K ≡ said_by say J ++ behind_by say (length J) K
  said_on J K b = ap (said_by say) b.1 ∙ said_then b.0 J ∙ ap (λ L. said_by say J ++ behind_by say (length J) L) (sym b.1)

-- ---- what a line is told as adds what is said of it

module _ (first second : ℕ) (day : Day) (say : History → Line → List ℕ) where
  abbrev pub AreTold : History → Type 0
  AreTold [] = Unit {0}
  AreTold (l ∷ J) = AreTold J × Adds first second (told_line day J l) (say J l)

  if_adds : (b : Bool) (text lines : List ℕ) → Adds first second text lines → Adds first second (if b then text else []) (if b then lines else [])
  if_adds true text lines h = h
  if_adds false text lines h = adds_nothing first second

  pub behind_adds : (i : ℕ) (J : History) → AreTold J → Adds first second (told_behind day i J) (behind_by say i J)
  unfolding told_behind
  behind_adds i [] h = adds_nothing first second
  behind_adds i (l ∷ J) h =
      adds_append first second (told_behind day i J) (if nat_le i (length J) then told_line day J l else []) (behind_by say i J) (if nat_le i (length J) then say J l else [])
      (behind_adds i J h.0) (if_adds (nat_le i (length J)) (told_line day J l) (say J l) h.1)

-- ---- what is said

-- its text
abbrev pub made : History → Line → List ℕ
made J l = line_text (suc (length J)) l

pub made_all_lines : (J : History) → said_by made J ≡ journal_text J
unfolding journal_text
made_all_lines [] = refl
made_all_lines (l ∷ J) = ap (λ t. t ++ made J l) (made_all_lines J)

-- what it tells
abbrev pub tells : Day → History → Line → List ℕ
tells day J l = texts (statuses day J l)

-- nothing
abbrev pub silent : History → Line → List ℕ
silent J l = []
