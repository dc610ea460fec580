-- What the program promises of a run.
use Rattle.std.specs.Prelude.{ℕ, ◌≡◌, ◌⊎◌, ◌+◌, ◌*◌, ◌-◌, ◌/◌, ◌≤◌, ◌<◌, suc, nat_eq, if◌then◌else◌, true, List, [], ◌∷◌, ◌++◌, length}
use Rattle.batch_records.specs.DayRecord.{Day}
use Rattle.commit_journal.specs.Line.{History, Line}
use Rattle.commit_journal.specs.Histories.{Begins}
use Rattle.program_answers.specs.Answers.{Answer}
use Rattle.program_answers.specs.Inputs.{IsGiven, IsRefused, IsTooLong}
use Rattle.program_answers.specs.Programs.{Program, Promises, WroteNothing}
use Rattle.program_answers.specs.Runs.{Run}
use Rattle.machine.specs.Laws.{Laws}
use Rattle.machine.specs.Legal.{IsLegal, is_complete}
use Rattle.durable_day.specs.declared.words.Request.{Request}
use Rattle.durable_day.specs.declared.words.Request.TheVariants as requests
use Rattle.durable_day.specs.Answers.{NoneFails, calls_of_run, calls_to_open, foreign_text, journal_in, longest_input, seen_at_end, shown_text, store_of}
use Rattle.durable_day.specs.Bytes.{StandsFor, entry, stored}
use Rattle.durable_day.specs.Onward.{StandsOnTheWay, gone_on, missing, put_over}
use Rattle.durable_day.specs.Requests.{request_of, usage_text}
use Rattle.durable_day.specs.Stores.{StandsForNone}

-- ---- what an answer says of the bytes that were read

-- The store stands for this legal journal and no other. No bytes at all are a new store, that of no lines.
pub record HasJournal (day : Day) (rest : List ℕ) (journal : History) : Type 0 where
  pub is : journal ≡ journal_in day rest
  pub legal : IsLegal day journal
  pub stands : StandsFor journal (store_of rest)
  pub one : (other : History) → IsLegal day other → StandsFor other (store_of rest) → other ≡ journal

-- The legal journal at the front of the store, whether the store stands for it or for none: all lines that stand there stored as
-- the machine makes them.
pub record IsInFront (day : Day) (rest : List ℕ) (journal : History) : Type 0 where
  pub is : journal ≡ journal_in day rest
  pub legal : IsLegal day journal
  pub behind : List ℕ
  pub bytes_are : store_of rest ≡ stored journal ++ behind
  pub last : (l : Line) (more : List ℕ) → IsLegal day (l ∷ journal) → behind ≡ entry (suc (length journal)) l ++ more → ⊥

-- Status 0 of `show`: the text of each line of the store's journal, and how many they are.
pub record IsShown (bytes text : List ℕ) : Type 0 where
  pub day : Day
  pub rest : List ℕ
  pub given : IsGiven longest_input bytes day rest
  pub journal : History
  pub has : HasJournal day rest journal
  pub is : text ≡ shown_text journal

-- Status 0 of `run`: no call of the disk failed. The text is the bytes that the disk shows then, and is a store of the complete
-- journal to which the store's goes on. This journal is legal and keeps the laws.
pub record IsComplete (calls : ℕ) (bytes text : List ℕ) : Type 0 where
  pub day : Day
  pub rest : List ℕ
  pub given : IsGiven longest_input bytes day rest
  pub journal : History
  pub has : HasJournal day rest journal
  pub legal : IsLegal day (gone_on day journal)
  pub laws : Laws day (gone_on day journal)
  pub complete : is_complete (gone_on day journal) ≡ true
  pub goes_on : Begins journal (gone_on day journal)
  pub stands : StandsFor (gone_on day journal) text
  pub enough : calls_of_run day rest ≤ calls
  pub shows : text ≡ seen_at_end calls day rest
  -- its lines, a closed gate, and further on what stood there; nothing else is written, and nothing where no line is added
  pub kept : text ≡ (if nat_eq (missing day journal) 0 then store_of rest else put_over (gone_on day journal) (store_of rest))

-- A store of a journal between the store's and the complete one. It has at least so many lines more as the calls left were enough
-- for, of four calls each: each line that was acknowledged.
pub record WasGoingOn (calls : ℕ) (day : Day) (rest : List ℕ) (journal : History) (text : List ℕ) : Type 0 where
  pub has : HasJournal day rest journal
  pub few : calls < calls_to_open day rest + 4 * missing day journal
  pub stands : StandsOnTheWay day journal ((calls - calls_to_open day rest) / 4) text

-- the bytes as they came; the calls weren't enough to open the store
abbrev pub WasNotOpened : ℕ → Day → List ℕ → List ℕ → Type 0
WasNotOpened calls day rest text = (text ≡ rest) × (calls < calls_to_open day rest)

-- Status 8, of `run` alone: a call of the disk failed, since fewer passed than the run takes. The text is the bytes that the disk
-- shows then.
pub record IsStopped (calls : ℕ) (bytes text : List ℕ) : Type 0 where
  pub day : Day
  pub rest : List ℕ
  pub given : IsGiven longest_input bytes day rest
  pub journal : History
  pub front : IsInFront day rest journal
  pub few : calls < calls_of_run day rest
  pub shows : text ≡ seen_at_end calls day rest
  pub left : WasNotOpened calls day rest text ⊎ WasGoingOn calls day rest journal text

-- Status 9: the bytes after the day stand for no legal journal of it. The place told is the first at which no line of one stands.
-- No call of the disk failed.
pub record IsForeign (r : Request) (bytes text : List ℕ) : Type 0 where
  pub day : Day
  pub rest : List ℕ
  pub given : IsGiven longest_input bytes day rest
  pub some : rest ≡ [] → ⊥
  pub none : StandsForNone day rest
  pub journal : History
  pub front : IsInFront day rest journal
  pub is : text ≡ foreign_text (suc (length journal))
  pub enough : NoneFails r day rest

abbrev pub IsDone : Request → List ℕ → List ℕ → Type 0
IsDone (requests.Run calls) bytes text = IsComplete calls bytes text
IsDone requests.Show bytes text = IsShown bytes text

-- no opening fails where the journal is shown
abbrev pub IsBrokenOff : Request → List ℕ → List ℕ → Type 0
IsBrokenOff (requests.Run calls) bytes text = IsStopped calls bytes text
IsBrokenOff requests.Show bytes text = ⊥

-- each answer is one of these
abbrev pub IsAnswer : Request → List ℕ → Answer → Type 0
IsAnswer r bytes answer =
    ((answer.status ≡ 0) × IsDone r bytes answer.text)
    ⊎ (((answer.status ≡ 3) × IsRefused longest_input bytes answer.text)
    ⊎ (((answer.status ≡ 7) × IsTooLong longest_input bytes answer.text)
    ⊎ (((answer.status ≡ 8) × IsBrokenOff r bytes answer.text) ⊎ ((answer.status ≡ 9) × IsForeign r bytes answer.text))))

-- ---- the program

abbrev pub durable_program : Program Request
durable_program = record {
  request_of = request_of;
  usage_text = usage_text;
  reads = λ r. true;
  longest_input = longest_input;
  IsAnswer = IsAnswer;
  RanShort = WroteNothing longest_input;
}

abbrev pub DurablePromises : Run → Type 0
DurablePromises = Promises durable_program
