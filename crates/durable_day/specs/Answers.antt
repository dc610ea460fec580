-- The answers of the program: a status and a text for the bytes that it was given.
use Rattle.std.specs.Prelude.{ℕ, ◌≡◌, ◌⊎◌, ◌+◌, ◌*◌, ◌-◌, ◌/◌, ◌<◌, ◌≤◌, suc, min, nat_lt, true, false, if◌then◌else◌, List, [], ◌∷◌, ◌++◌, length, decimal, codes}
use Rattle.outside_io.specs.Pieces.{SinkState}
use Rattle.outside_io.specs.TextLine.{text_line}
use Rattle.batch_records.specs.DayRecord.{Day}
use Rattle.commit_journal.specs.Line.{History}
use Rattle.commit_journal.specs.Text.{journal_text}
use Rattle.disk_model.specs.Cut.{once}
use Rattle.program_answers.specs.Answers.{Answer, ok_text}
use Rattle.program_answers.specs.Giving.{Says}
use Rattle.program_answers.specs.Limits.{longest_long_input}
use Rattle.durable_day.specs.declared.words.Request.{Request}
use Rattle.durable_day.specs.declared.words.Request.TheVariants as requests
use Rattle.durable_day.specs.Bytes.{StandsFor, front, is_closed}
use Rattle.durable_day.specs.Onward.{StandsOnTheWay, gone_by, gone_on, missing}
use Rattle.durable_day.specs.Stores.{opening_time}

-- how many bytes an input may have
abbrev pub longest_input : ℕ
longest_input = longest_long_input

-- ---- texts

-- a store of no legal journal of the day, with the first place at which no line of one stands
abbrev pub foreign_text : ℕ → List ℕ
foreign_text place = text_line (codes "FOREIGN" ∷ decimal place ∷ [])

abbrev pub shown_text : History → List ℕ
shown_text J = journal_text J ++ ok_text (length J)

-- ---- the store after a day

-- the bytes of the store that is opened: no bytes are a new store, which is formatted
abbrev pub store_of : List ℕ → List ℕ
store_of [] = 0 ∷ []
store_of (byte ∷ bytes) = byte ∷ bytes

-- the legal journal at the front of the store
abbrev pub journal_in : Day → List ℕ → History
journal_in day rest = (front day (store_of rest)).0

-- how many lines it has
abbrev pub lines_in : Day → List ℕ → ℕ
lines_in day rest = length (journal_in day rest)

-- how many lines are to be added to it; none to a store that stands for no journal
abbrev pub lines_to_add : Day → List ℕ → ℕ
lines_to_add day rest = if is_closed (front day (store_of rest)).1 then missing day (journal_in day rest) else 0

-- ---- the calls of a disk that a run asks for

-- a new store takes a write and a sync
abbrev pub making_time : List ℕ → ℕ
making_time [] = 2
making_time (byte ∷ bytes) = 0

-- how many calls open the store, with those that make it where it is new
abbrev pub calls_to_open : Day → List ℕ → ℕ
calls_to_open day rest = making_time rest + opening_time day (store_of rest)

-- how many a run takes of which none fails: those, and four for each line that is to be added
abbrev pub calls_of_run : Day → List ℕ → ℕ
calls_of_run day rest = calls_to_open day rest + 4 * lines_to_add day rest

-- What the disk shows after so many calls of a run. Until it is open, the bytes that came, or the store that was made of none.
abbrev pub seen_after : ℕ → Day → List ℕ → List ℕ
seen_after calls day rest =
    if nat_lt calls (calls_to_open day rest) then once rest (store_of rest) calls
    else gone_by day (journal_in day rest) (store_of rest) (calls - calls_to_open day rest)

-- what it shows that passes so many calls, when the run is over
abbrev pub seen_at_end : ℕ → Day → List ℕ → List ℕ
seen_at_end passes day rest = seen_after (min passes (calls_of_run day rest)) day rest

-- ---- what is answered over a day and the bytes after it

-- the store stands for its journal
abbrev pub IsWhole : Day → List ℕ → Type 0
IsWhole day rest = is_closed (front day (store_of rest)).1 ≡ true

-- the text is that of its journal
abbrev pub ShowsIt : Day → List ℕ → List ℕ → Type 0
ShowsIt day rest text = IsWhole day rest × (text ≡ shown_text (journal_in day rest))

-- Each call passed. The bytes are those that the disk shows, and stand for the complete journal to which it goes on.
pub record EndsIt (day : Day) (rest : List ℕ) (calls : ℕ) (text : List ℕ) : Type 0 where
  pub whole : IsWhole day rest
  pub enough : calls_of_run day rest ≤ calls
  pub shows : text ≡ seen_at_end calls day rest
  pub stands : StandsFor (gone_on day (journal_in day rest)) text

-- A call of the disk failed. The bytes are those that it shows. They stand for a journal on the way to the complete one, with at
-- least so many lines more as the calls were enough for; or they are those that came, where the calls weren't enough to open the store.
pub record StopsIt (day : Day) (rest : List ℕ) (calls : ℕ) (text : List ℕ) : Type 0 where
  pub few : calls < calls_of_run day rest
  pub shows : text ≡ seen_at_end calls day rest
  pub left : ((text ≡ rest) × (calls < calls_to_open day rest)) ⊎ (IsWhole day rest × StandsOnTheWay day (journal_in day rest) ((calls - calls_to_open day rest) / 4) text)

-- the bytes that came stand for no legal journal of the day
abbrev pub IsForeignTo : Day → List ℕ → List ℕ → Type 0
IsForeignTo day rest text = (is_closed (front day (store_of rest)).1 ≡ false) × (text ≡ foreign_text (suc (lines_in day rest)))

-- each call of the disk passed; no disk that is shown fails
abbrev pub NoneFails : Request → Day → List ℕ → Type 0
NoneFails (requests.Run calls) day rest = calls_of_run day rest ≤ calls
NoneFails requests.Show day rest = Unit {0}

abbrev pub DoesIt : Request → Day → List ℕ → List ℕ → Type 0
DoesIt (requests.Run calls) day rest text = EndsIt day rest calls text
DoesIt requests.Show day rest text = ShowsIt day rest text

abbrev pub BreaksOff : Request → Day → List ℕ → List ℕ → Type 0
BreaksOff (requests.Run calls) day rest text = StopsIt day rest calls text
BreaksOff requests.Show day rest text = ⊥

abbrev pub AnswersOver : Request → Day → List ℕ → Answer → Type 0
AnswersOver r day rest answer = ((answer.status ≡ 0) × DoesIt r day rest answer.text) ⊎ (((answer.status ≡ 8) × BreaksOff r day rest answer.text) ⊎ ((answer.status ≡ 9) × IsForeignTo day rest answer.text × NoneFails r day rest))

-- ---- how an answer is given

-- an answer of these is given
abbrev pub SaysOne : SinkState → SinkState → (Answer → Type 0) → ℕ → Type 0
SaysOne old new Is status = (answer : Answer) × Is answer × Says old new answer status
