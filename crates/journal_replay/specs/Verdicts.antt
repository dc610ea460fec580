-- What is said of a text: whether it is that of a complete legal journal of the day, or the first place at which it goes wrong.
use Rattle.std.specs.Prelude.{ℕ, ◌≡◌, zero, suc, true, ◌&&◌, if◌then◌else◌, List, [], ◌++◌, ◌∷◌, Option, Some, length, take, drop, bytes_eq}
use Rattle.std.specs.Option.{option_map_or}
use Rattle.batch_records.specs.DayRecord.{Day}
use Rattle.batch_records.specs.Versions.{most_messages}
use Rattle.commit_journal.specs.Line.{Line, History}
use Rattle.commit_journal.specs.Text.{line_text, journal_text}
use Rattle.commit_journal.specs.FieldGrammar.{◌>>=◌, when, Read}
use Rattle.commit_journal.specs.LineGrammar.{read_line}
use Rattle.machine.specs.Words.{is_empty}
use Rattle.machine.specs.Making.Lines.{line_of}
use Rattle.machine.specs.Legal.{IsLegal, is_complete, want_of}
use Rattle.journal_replay.specs.declared.judging.Verdict.{Verdict}
use Rattle.journal_replay.specs.declared.judging.Verdict.TheVariants as verdicts

-- ---- the verdict, computed

-- the bytes after this text, where they begin with it
abbrev pub behind : List ℕ → List ℕ → Option (List ℕ)
behind text bytes = when (bytes_eq (take (length text) bytes) text) (drop (length text) bytes)

-- the machine's line for the want that the bytes name, where its text stands at their front; and the bytes after it
unfoldable pub next_line : Day → History → List ℕ → Read Line
next_line day J bytes = do
  read ← read_line (most_messages day.version) (suc (length J)) bytes
  line ← line_of day J (want_of read.0)
  rest ← behind (line_text (suc (length J)) line) bytes
  Some (line, rest)

-- a history with the machine's lines that follow in the bytes, at most so many of them; and the bytes after them
unfoldable pub followed : ℕ → Day → History → List ℕ → History × List ℕ
followed zero day J bytes = (J, bytes)
followed (suc n) day J bytes = option_map_or (λ (read : Line × List ℕ). followed n day (read.0 ∷ J) read.1) (next_line day J bytes) (J, bytes)

-- The longest legal history with whose text the bytes begin, and the bytes after it. There are no more lines than bytes.
abbrev pub longest : Day → List ℕ → History × List ℕ
longest day text = followed (length text) day [] text

abbrev pub verdict_on : History × List ℕ → Verdict
verdict_on read = if is_complete read.0 && is_empty read.1 then verdicts.Legal (length read.0) else verdicts.Illegal (suc (length read.0))

-- the verdict on a text
unfoldable pub verdict : Day → List ℕ → Verdict
verdict day text = verdict_on (longest day text)

-- ---- what a verdict says

-- the text is that of a complete legal journal with so many lines, and of nothing else
pub record IsWholeJournal (day : Day) (text : List ℕ) (lines : ℕ) : Type 0 where
  pub journal : History
  pub legal : IsLegal day journal
  pub complete : is_complete journal ≡ true
  pub text_is : text ≡ journal_text journal
  pub count : lines ≡ length journal

-- the bytes begin with the text of no line that the machine makes after the history
abbrev pub NoneFollows : Day → History → List ℕ → Type 0
NoneFollows day J bytes = (l : Line) (rest : List ℕ) → IsLegal day (l ∷ J) → bytes ≡ line_text (suc (length J)) l ++ rest → ⊥

-- The text has the machine's lines up to the place, and none of the machine's lines at the place, though the journal isn't
-- complete or the text isn't at its end there.
pub record GoesWrongAt (day : Day) (text : List ℕ) (place : ℕ) : Type 0 where
  pub before : History
  pub rest : List ℕ
  pub legal : IsLegal day before
  pub text_is : text ≡ journal_text before ++ rest
  pub place_is : place ≡ suc (length before)
  pub none : NoneFollows day before rest
  pub not_whole : is_complete before ≡ true → rest ≡ [] → ⊥
