-- The programs that tell something of a legal journal, and what their answers say of the bytes that were read.
use Rattle.std.specs.Prelude.{ℕ, ◌≡◌, ◌≤◌, ◌⊎◌, suc, true, List, [], ◌++◌, length, Option}
use Rattle.batch_records.specs.DayRecord.{Day}
use Rattle.commit_journal.specs.Line.{History}
use Rattle.commit_journal.specs.Text.{journal_text}
use Rattle.program_answers.specs.Answers.{Answer, illegal_text}
use Rattle.program_answers.specs.Inputs.{IsGiven, IsRefused, IsTooLong}
use Rattle.program_answers.specs.Programs.{Program, WroteNothing}
use Rattle.machine.specs.Legal.{IsLegal}
use Rattle.machine.specs.Laws.{Laws}
use Rattle.journal_replay.specs.Verdicts.{NoneFollows}
use Rattle.journal_reading.specs.Answers.{Told, answer_of, longest_input}

-- Status 0: what follows the day is the text of a legal journal of it and nothing else. It needn't be complete, it keeps the
-- laws, and no other legal journal has this text. The answer is what is told of it.
pub record IsTold (told : Told) (bytes text : List ℕ) : Type 0 where
  pub day : Day
  pub rest : List ℕ
  pub given : IsGiven longest_input bytes day rest
  pub journal : History
  pub legal : IsLegal day journal
  pub laws : Laws day journal
  pub text_is : rest ≡ journal_text journal
  pub one : (other : History) → IsLegal day other → rest ≡ journal_text other → other ≡ journal
  pub is : text ≡ told day journal

-- Status 6: what follows the day isn't the text of a legal journal and nothing else. It has the machine's lines up to the place
-- that is told, and there something stands that is the text of none of the machine's lines. No legal journal goes along further.
pub record IsIllegal (bytes text : List ℕ) : Type 0 where
  pub day : Day
  pub rest : List ℕ
  pub given : IsGiven longest_input bytes day rest
  pub before : History
  pub behind : List ℕ
  pub legal : IsLegal day before
  pub text_is : rest ≡ journal_text before ++ behind
  pub more : behind ≡ [] → ⊥
  pub none : NoneFollows day before behind
  pub furthest : (other : History) (more : List ℕ) → IsLegal day other → rest ≡ journal_text other ++ more → length other ≤ length before
  pub no_journal : (other : History) → IsLegal day other → rest ≡ journal_text other → ⊥
  pub is : text ≡ illegal_text (suc (length before))

-- each answer is one of these, where this is said at status 0
abbrev pub IsAnswer : (List ℕ → List ℕ → Type 0) → List ℕ → Answer → Type 0
IsAnswer IsDone bytes answer =
    ((answer.status ≡ 0) × IsDone bytes answer.text)
    ⊎ (((answer.status ≡ 3) × IsRefused longest_input bytes answer.text)
    ⊎ (((answer.status ≡ 6) × IsIllegal bytes answer.text) ⊎ ((answer.status ≡ 7) × IsTooLong longest_input bytes answer.text)))

-- the answer that is defined for the bytes, which is one of these
abbrev pub IsDefined : Told → (List ℕ → List ℕ → Type 0) → List ℕ → Answer → Type 0
IsDefined told IsDone bytes answer = (answer ≡ answer_of told bytes) × IsAnswer IsDone bytes answer

-- the program that tells this, and says that at status 0
abbrev pub journal_program : {Request : Type 0} → (List (List ℕ) → Option Request) → List ℕ → (Request → Told) → (Request → List ℕ → List ℕ → Type 0) → Program Request
journal_program request_of usage_text told IsDone = record {
  request_of = request_of;
  usage_text = usage_text;
  reads = λ r. true;
  longest_input = longest_input;
  IsAnswer = λ r. IsDefined (told r) (IsDone r);
  RanShort = WroteNothing longest_input;
}
