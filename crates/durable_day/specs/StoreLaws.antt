-- What the bytes of a store tell, as statements.
use Rattle.std.specs.Prelude.{◌≡◌, ◌⊎◌, ℕ, suc, ◌+◌, ◌≤◌, true, false, List, ◌∷◌, ◌++◌, length, Some, None}
use Rattle.batch_records.specs.DayRecord.{Day}
use Rattle.batch_records.specs.Sound.{is_sound}
use Rattle.commit_journal.specs.declared.line.Want.{Want}
use Rattle.commit_journal.specs.declared.line.Want.TheVariants as wants
use Rattle.commit_journal.specs.Line.{Line, History}
use Rattle.commit_journal.specs.Histories.{Begins}
use Rattle.machine.specs.declared.answers.Why.TheVariants as whys
use Rattle.machine.specs.Telling.History.{is_ended, taken}
use Rattle.machine.specs.Legal.{IsLegal, is_complete}
use Rattle.machine.specs.Making.Lines.{line_of}
use Rattle.machine.specs.Making.Reasons.{why_of}
use Rattle.durable_day.specs.Bytes.{entry, stored, StandsFor, front, is_closed}
use Rattle.durable_day.specs.Onward.{StandsOnTheWay, gone_on}
use Rattle.durable_day.specs.Steps.{StandsWithOrWithout}

-- what the front of some bytes is: a legal history whose lines stand stored there, and no line of the machine after them
pub record IsFront (day : Day) (bytes : List ℕ) (found : History × List ℕ) : Type 0 where
  pub legal : IsLegal day found.0
  pub bytes_are : bytes ≡ stored found.0 ++ found.1
  pub last : (l : Line) (rest : List ℕ) → IsLegal day (l ∷ found.0) → found.1 ≡ entry (suc (length found.0)) l ++ rest → ⊥

-- of all bytes the computed front is one
abbrev pub FrontsAreFound : Type 0
FrontsAreFound = (day : Day) (bytes : List ℕ) → is_sound day ≡ true → IsFront day bytes (front day bytes)

-- Bytes stand for a legal journal exactly where their front ends at a closed gate, and then for that of the front.
abbrev pub ClosedFrontsStand : Type 0
ClosedFrontsStand = (day : Day) (bytes : List ℕ) → is_sound day ≡ true → is_closed (front day bytes).1 ≡ true → StandsFor (front day bytes).0 bytes

abbrev pub OneJournalEach : Type 0
OneJournalEach = (day : Day) (bytes : List ℕ) (J : History) → is_sound day ≡ true → IsLegal day J → StandsFor J bytes → (J ≡ (front day bytes).0) × (is_closed (front day bytes).1 ≡ true)

-- ---- after a crash

-- an opening finds this journal in the bytes
abbrev pub Finds : Day → List ℕ → History → Type 0
Finds day bytes J = (is_closed (front day bytes).1 ≡ true) × ((front day bytes).0 ≡ J)

-- what a crash within a step may leave is opened as the journal as it was, or with the line of the want
abbrev pub StepsSurvive : Type 0
StepsSurvive = (day : Day) (J : History) (want : Want) (bytes : List ℕ) → is_sound day ≡ true → IsLegal day J → StandsWithOrWithout day J want bytes →
    Finds day bytes J ⊎ ((l : Line) × (line_of day J want ≡ Some l) × Finds day bytes (l ∷ J))

-- what a crash on the way to the end may leave is opened as a legal journal on this way, with every line that was on the disk
abbrev pub RunsSurvive : Type 0
RunsSurvive = (day : Day) (J : History) (lines : ℕ) (bytes : List ℕ) → is_sound day ≡ true → StandsOnTheWay day J lines bytes →
    (K : History) × Finds day bytes K × IsLegal day K × Begins J K × Begins K (gone_on day J) × (length J + lines ≤ length K)

-- ---- going on

-- from every legal journal the day goes on to a complete one
abbrev pub DaysGoOn : Type 0
DaysGoOn = (day : Day) (J : History) → is_sound day ≡ true → IsLegal day J → IsLegal day (gone_on day J) × (is_complete (gone_on day J) ≡ true) × Begins J (gone_on day J)

-- A message that is taken has no other In line: it is told where it was taken, or that the day is over.
abbrev pub NoneIsTakenAgain : Type 0
NoneIsTakenAgain = (day : Day) (J : History) (n place : ℕ) → is_sound day ≡ true → IsLegal day J → taken J n ≡ Some place →
    (line_of day J (wants.In n) ≡ None) × (is_ended J ≡ false → why_of day J (wants.In n) ≡ Some (whys.Taken place))
