-- What a program is, and what it promises of a run.
use Rattle.std.specs.Prelude.{ℕ, ◌≡◌, ◌≤◌, ◌⊎◌, Bool, true, false, ◌||◌, List, [], length, Option, Some, None, nat_eq}
use Rattle.refused_memory.specs.{WasRefused}
use Rattle.outside_io.specs.Causes.{Rose, one_more}
use Rattle.outside_io.specs.Pieces.{TakesAtMost, ToldOnce}
use Rattle.program_answers.specs.Answers.{Answer}
use Rattle.program_answers.specs.Runs.{HasRead, HasWritten, ReadsNothing, Run, WasCutShort, WritesNothing}

-- What its words ask for, or none where they are no command line; the line that is written for other words; which requests read
-- an input; how many bytes an input may have; which answers to the bytes that were read are right; and what is said of a run in
-- which memory was wanting.
pub record Program (Request : Type 0) : Type 1 where
  pub request_of : List (List ℕ) → Option Request
  pub usage_text : List ℕ
  pub reads : Request → Bool
  pub longest_input : ℕ
  pub IsAnswer : Request → List ℕ → Answer → Type 0
  pub RanShort : Run → Type 0

-- no more was taken from the source than an input may have, and nothing was written
abbrev pub WroteNothing : ℕ → Run → Type 0
WroteNothing longest run = TakesAtMost run.left run.left_after longest × WritesNothing run

-- the statuses of no answer: memory was wanting, the words were no command line, a read failed, a write failed
abbrev pub is_no_answer : ℕ → Bool
is_no_answer n = nat_eq n 1 || (nat_eq n 2 || (nat_eq n 4 || nat_eq n 5))

-- the words ask for this
abbrev pub Asks : {Request : Type 0} → Program Request → Run → Request → Type 0
Asks program run r = program.request_of run.words ≡ Some r

abbrev pub AsksSome : {Request : Type 0} → Program Request → Run → Type 0
AsksSome {Request = Request} program run = (r : Request) × Asks program run r

-- some words ask for this
abbrev pub IsAsked : {Request : Type 0} → Program Request → Request → Type 0
IsAsked program r = (words : List (List ℕ)) × (program.request_of words ≡ Some r)

-- the words ask for something that reads an input
abbrev pub AsksToRead : {Request : Type 0} → Program Request → Run → Type 0
AsksToRead {Request = Request} program run = (r : Request) × Asks program run r × (program.reads r ≡ true)

abbrev pub IsNoRequest : {Request : Type 0} → Program Request → Run → Type 0
IsNoRequest program run = program.request_of run.words ≡ None

-- these bytes were read for it: those of the input, or none where it reads nothing
pub record WereRead {Request : Type 0} (program : Program Request) (run : Run) (r : Request) (bytes : List ℕ) : Type 0 where
  pub input : program.reads r ≡ true → HasRead program.longest_input run bytes
  pub none : program.reads r ≡ false → bytes ≡ []

-- The words ask for this, and these bytes were read for it, to the end that the source told once, or past the greatest size. No read
-- failed.
pub record HasTaken {Request : Type 0} (program : Program Request) (run : Run) (r : Request) (bytes : List ℕ) : Type 0 where
  pub asks : Asks program run r
  pub within : length bytes ≤ program.longest_input
  pub read : WereRead program run r bytes
  pub unread : program.reads r ≡ false → ReadsNothing run
  pub told : (run.ends_after ≡ run.ends) ⊎ ToldOnce run.ends run.ends_after
  pub kept : run.read_faults_after ≡ run.read_faults

-- a right answer to the bytes that were read
pub record IsDue {Request : Type 0} (program : Program Request) (run : Run) (r : Request) (answer : Answer) : Type 0 where
  pub bytes : List ℕ
  pub read : WereRead program run r bytes
  pub is : program.IsAnswer r bytes answer

-- it was given whole
pub record IsAnswered {Request : Type 0} (program : Program Request) (run : Run) (r : Request) : Type 0 where
  pub answer : Answer
  pub due : IsDue program run r answer
  pub status : run.status ≡ answer.status
  pub text : HasWritten run answer.text

-- the text that is defined for the run, of which a front was written where the sink failed
abbrev pub IsDefined : {Request : Type 0} → Program Request → Run → List ℕ → Type 0
IsDefined {Request = Request} program run text =
    (IsNoRequest program run × (text ≡ program.usage_text))
    ⊎ ((r : Request) × Asks program run r × (answer : Answer) × IsDue program run r answer × (text ≡ answer.text))

pub record Promises {Request : Type 0} (program : Program Request) (run : Run) : Type 0 where
  -- the status is that of an answer to the bytes that were read, which was given whole, or 1, 2, 4 or 5
  pub status : (is_no_answer run.status ≡ true) ⊎ ((r : Request) × Asks program run r × IsAnswered program run r)
  -- 1, 2, 4 and 5: when each comes, and what was read and written then. At 4 and 5 one call failed, and none after it.
  pub memory : run.status ≡ 1 → AsksSome program run × program.RanShort run
  -- and 1 has a cause: a request for memory was refused
  pub refused : run.status ≡ 1 → WasRefused
  pub usage : run.status ≡ 2 → IsNoRequest program run × HasWritten run program.usage_text
  pub read_fault : run.status ≡ 4 → AsksToRead program run × WroteNothing program.longest_input run × (run.read_faults_after ≡ one_more run.read_faults)
  pub write_fault : run.status ≡ 5 → (text : List ℕ) × IsDefined program run text × WasCutShort run text
  -- with another status than 4 the source's count of faults stays: no read failed
  pub no_read_fault : (run.status ≡ 4 → ⊥) → run.read_faults_after ≡ run.read_faults
  -- the source told its end at most once: it isn't asked again after it
  pub end_told_once : (run.ends_after ≡ run.ends) ⊎ ToldOnce run.ends run.ends_after
  -- with another status than 5 the sink's count of faults stays: no write failed
  pub no_write_fault : (run.status ≡ 5 → ⊥) → run.sink_after.faults ≡ run.sink.faults
  -- other words are answered as such, and nothing is read for them
  pub other_words : IsNoRequest program run → ((run.status ≡ 2) ⊎ (run.status ≡ 5)) × ReadsNothing run
  -- nothing is read for a request that reads none, whatever the status
  pub unread : (r : Request) → Asks program run r → program.reads r ≡ false → ReadsNothing run
  -- where neither the source nor the sink failed, a right answer was given whole, or memory was wanting
  pub complete : (r : Request) → Asks program run r → (Rose run.read_faults run.read_faults_after → ⊥) → (Rose run.sink.faults run.sink_after.faults → ⊥) →
      (run.status ≡ 1) ⊎ IsAnswered program run r
  -- no count of faults ever falls
  pub read_faults_stay : run.read_faults ≤ run.read_faults_after
  pub write_faults_stay : run.sink.faults ≤ run.sink_after.faults
