-- What a verdict says, as a relation beside the computed one, and the laws of both.
use Rattle.std.specs.Prelude.{ℕ, ◌≡◌, true, List, length}
use Rattle.batch_records.specs.DayRecord.{Day}
use Rattle.batch_records.specs.Sound.{is_sound}
use Rattle.commit_journal.specs.Line.{History}
use Rattle.commit_journal.specs.Text.{journal_text}
use Rattle.machine.specs.Legal.{IsLegal, is_complete}
use Rattle.machine.specs.Orders.Order.{plain}
use Rattle.journal_replay.specs.declared.judging.Verdict.{Verdict}
use Rattle.journal_replay.specs.declared.judging.Verdict.TheVariants as verdicts
use Rattle.journal_replay.specs.Verdicts.{verdict, IsWholeJournal, GoesWrongAt}

-- what the verdict says of the text is so
abbrev pub Holds : Day → List ℕ → Verdict → Type 0
Holds day text (verdicts.Legal lines) = IsWholeJournal day text lines
Holds day text (verdicts.Illegal place) = GoesWrongAt day text place

-- of each text the computed verdict holds
abbrev pub VerdictsHold : Type 0
VerdictsHold = (day : Day) (text : List ℕ) → is_sound day ≡ true → Holds day text (verdict day text)

-- and no other one does
abbrev pub NoOtherHolds : Type 0
NoOtherHolds = (day : Day) (text : List ℕ) (other : Verdict) → is_sound day ≡ true → Holds day text other → other ≡ verdict day text

-- the text of each complete legal journal is legal, in whatever order its lines were made
abbrev pub WholeJournalsAreLegal : Type 0
WholeJournalsAreLegal = (day : Day) (J : History) → is_sound day ≡ true → IsLegal day J → is_complete J ≡ true → verdict day (journal_text J) ≡ verdicts.Legal (length J)

-- so is that of the written order
abbrev pub SettledDaysAreLegal : Type 0
SettledDaysAreLegal = (day : Day) → is_sound day ≡ true → verdict day (journal_text (plain day)) ≡ verdicts.Legal (length (plain day))
