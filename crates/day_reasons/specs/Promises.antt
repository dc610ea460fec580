-- What the program promises of a run.
use Rattle.std.specs.Prelude.{ℕ, ◌≡◌, ◌≤◌, ◌⊎◌, true, if◌then◌else◌, List, [], ◌++◌, length}
use Rattle.batch_records.specs.DayRecord.{Day}
use Rattle.commit_journal.specs.Line.{History}
use Rattle.commit_journal.specs.Text.{journal_text}
use Rattle.program_answers.specs.Answers.{Answer, done, ok_text}
use Rattle.program_answers.specs.Inputs.{IsGiven, IsRefused, IsTooLong, answer_of_input}
use Rattle.program_answers.specs.Limits.{longest_long_input}
use Rattle.program_answers.specs.Programs.{Program, Promises, WroteNothing}
use Rattle.program_answers.specs.Runs.{Run}
use Rattle.machine.specs.Legal.{IsLegal}
use Rattle.machine.specs.Words.{is_empty}
use Rattle.journal_replay.specs.Verdicts.{NoneFollows, longest}
use Rattle.journal_reading.specs.Answers.{Told}
use Rattle.journal_reading.specs.Programs.{IsTold}
use Rattle.day_reasons.specs.declared.words.Request.{Request}
use Rattle.day_reasons.specs.Requests.{request_of, usage_text}
use Rattle.day_reasons.specs.Told.{beginning, messages_text}
use Rattle.day_reasons.specs.Wrong.{wrong_text}

-- how many bytes an input may have
abbrev pub longest_input : ℕ
longest_input = longest_long_input

-- ---- the answer

-- what is told of a legal journal: the messages of the day after its first lines, or after all of them, and how many messages there are
abbrev pub told : Request → Told
told r day journal = messages_text day (beginning r journal) ++ ok_text (length day.messages)

-- what is told of the machine's lines at the front of a text, and of what is wrong behind them
abbrev pub told_wrong : Request → Day → History → List ℕ → List ℕ
told_wrong r day before behind = messages_text day (beginning r before) ++ wrong_text day before behind

abbrev pub wrong : Request → Day → History → List ℕ → Answer
wrong r day before behind = record { status = 6; text = told_wrong r day before behind }

abbrev pub answer_of_followed : Request → Day → History × List ℕ → Answer
answer_of_followed r day read = if is_empty read.1 then done (told r day read.0) else wrong r day read.0 read.1

-- over the longest legal journal with whose text the rest begins
abbrev pub answer_of_rest : Request → Day → List ℕ → Answer
answer_of_rest r day rest = answer_of_followed r day (longest day rest)

abbrev pub answer_of : Request → List ℕ → Answer
answer_of r bytes = answer_of_input longest_input (λ day rest records. answer_of_rest r day rest) bytes

-- ---- what it says

-- Status 0: what follows the day is the text of a legal journal of it and nothing else, which is told of.
abbrev pub IsExplained : Request → List ℕ → List ℕ → Type 0
IsExplained r = IsTold (told r)

-- Status 6: what follows the day isn't the text of a legal journal and nothing else. It has the machine's lines up to a place, and there
-- something stands that is the text of none of the machine's lines. No legal journal goes along further. Told is what the machine says of
-- these lines, and of what stands behind them.
pub record IsWrong (r : Request) (bytes text : List ℕ) : Type 0 where
  pub day : Day
  pub rest : List ℕ
  pub given : IsGiven longest_input bytes day rest
  pub before : History
  pub behind : List ℕ
  pub legal : IsLegal day before
  pub text_is : rest ≡ journal_text before ++ behind
  pub more : behind ≡ [] → ⊥
  pub none : NoneFollows day before behind
  pub furthest : (other : History) (more : List ℕ) → IsLegal day other → rest ≡ journal_text other ++ more → length other ≤ length before
  pub no_journal : (other : History) → IsLegal day other → rest ≡ journal_text other → ⊥
  pub is : text ≡ told_wrong r day before behind

-- each answer is one of these
abbrev pub IsAnswer : Request → List ℕ → Answer → Type 0
IsAnswer r bytes answer =
    ((answer.status ≡ 0) × IsExplained r bytes answer.text)
    ⊎ (((answer.status ≡ 3) × IsRefused longest_input bytes answer.text)
    ⊎ (((answer.status ≡ 6) × IsWrong r bytes answer.text) ⊎ ((answer.status ≡ 7) × IsTooLong longest_input bytes answer.text)))

-- the answer that is defined for the bytes, which is one of these
abbrev pub IsDefined : Request → List ℕ → Answer → Type 0
IsDefined r bytes answer = (answer ≡ answer_of r bytes) × IsAnswer r bytes answer

abbrev pub reasons_program : Program Request
reasons_program = record {
  request_of = request_of;
  usage_text = usage_text;
  reads = λ r. true;
  longest_input = longest_input;
  IsAnswer = IsDefined;
  RanShort = WroteNothing longest_input;
}

abbrev pub ReasonPromises : Run → Type 0
ReasonPromises = Promises reasons_program
