-- The answer of the program: a status and a text for the bytes that it was given.
use Rattle.std.specs.Prelude.{ℕ, zero, suc, ◌≡◌, ◌⊎◌, if◌then◌else◌, List, [], ◌∷◌, ◌++◌, length, drop, nat_lt, Option, Some, None, Result, Ok, Err}
use Rattle.refused_memory.specs.{WasRefused}
use Rattle.outside_io.specs.Pieces.{HasPut, IsCutShort, SinkState}
use Rattle.batch_records.specs.DayRecord.{Day}
use Rattle.batch_records.specs.declared.day.DayCode.{DayCode}
use Rattle.batch_records.specs.Days.{day_of_bytes}
use Rattle.batch_records.specs.DayPart.{is_line_ends}
use Rattle.program_answers.specs.Answers.{Answer, too_long}
use Rattle.program_answers.specs.Giving.{Says}
use Rattle.program_answers.specs.Limits.{longest_long_input}
use Rattle.day_chain.specs.declared.joining.JoinFault.{JoinFault}
use Rattle.day_chain.specs.Chains.{IsFront}
use Rattle.day_chain.specs.ChainTexts.{end_text, fault_text, part_text, parts_text, refusal_text}
use Rattle.day_chain.specs.Joining.{join_fault}

-- how many bytes an input may have
abbrev pub longest_input : ℕ
longest_input = longest_long_input

-- this text, and then the answer's
abbrev pub behind : List ℕ → Answer → Answer
behind text answer = record { status = answer.status; text = text ++ answer.text }

-- ---- what follows the days so far, of which the latest stands first

-- all days were told
abbrev pub whole : List Day → Answer
whole told = record { status = 0; text = end_text told }

-- the next day is refused
abbrev pub refused : List Day → ℕ × DayCode → Answer
refused told fault = record { status = 3; text = refusal_text (suc (length told)) fault.0 fault.1 }

-- the next day doesn't join the one before it
abbrev pub apart : List Day → JoinFault → Answer
apart told fault = record { status = 8; text = fault_text (suc (length told)) fault }

-- what is wrong with a day after those told: the first of a chain joins
abbrev pub fault_behind : List Day → Day → Option JoinFault
fault_behind [] day = None
fault_behind (last ∷ told) day = join_fault last day

-- a day with the number of its bytes, where it joins
abbrev pub if_joined : List Day → Day × ℕ → Option JoinFault → Result (Day × ℕ) Answer
if_joined told read None = Ok read
if_joined told read (Some fault) = Err (apart told fault)

abbrev pub if_read : List Day → Result (Day × ℕ) (ℕ × DayCode) → Result (Day × ℕ) Answer
if_read told (Err fault) = Err (refused told fault)
if_read told (Ok read) = if_joined told read (fault_behind told read.0)

-- the next day with the number of its bytes, or the answer where there is none that joins
unfoldable pub next_day : List Day → List ℕ → Result (Day × ℕ) Answer
next_day told bytes = if_read told (day_of_bytes bytes)

-- The answer to these bytes after the days so far. Each day takes at least one byte, so there are fewer steps than bytes
-- and one. A rest of line ends alone ends the chain, and any other rest is the next day.
unfoldable pub answer_from : ℕ → List Day → List ℕ → Answer
answer_from zero told bytes = whole told
answer_from (suc steps) told bytes = elim (next_day told bytes) [
  | Err answer ↦ answer
  | Ok read ↦ behind (part_text read.0) (if is_line_ends (drop read.1 bytes) then whole (read.0 ∷ told) else answer_from steps (read.0 ∷ told) (drop read.1 bytes))
]

-- the answer to an input of these bytes
unfoldable pub answer_of : List ℕ → Answer
answer_of bytes = if nat_lt longest_input (length bytes) then too_long else answer_from (suc (length bytes)) [] bytes

-- ---- how an answer is given

-- the text of these days is the front of an answer
abbrev pub IsFrontOf : List Day → Answer → Type 0
IsFrontOf told answer = (more : List ℕ) × (parts_text told ++ more ≡ answer.text)

-- A request for memory was refused: some days at the front of the bytes were told, or none, and nothing more was written.
pub record RunsShort (bytes : List ℕ) (old new : SinkState) (status : ℕ) : Type 0 where
  pub short : status ≡ 1
  pub refused : WasRefused
  pub told : List Day
  pub rest : List ℕ
  pub front : IsFront bytes told rest
  pub begun : IsFrontOf told (answer_of bytes)
  pub put : HasPut old new (parts_text told)

-- the answer to some bytes is given, or memory is wanting
abbrev pub TellsAll : List ℕ → SinkState → SinkState → ℕ → Type 0
TellsAll bytes old new status = RunsShort bytes old new status ⊎ Says old new (answer_of bytes) status

-- The rest of an answer that is held is handed on to the sink below, unless a write failed before. The status is that of the
-- answer, or 5 where the sink fails now.
pub record HandsOver {S : Type 0} (state : S → SinkState) (old new : S) (held : List ℕ) (status end : ℕ) : Type 0 where
  pub cut : status ≡ 5 → (end ≡ 5) × (new ≡ old)
  pub rest : (status ≡ 5 → ⊥) → ((end ≡ status) × HasPut (state old) (state new) held) ⊎ ((end ≡ 5) × IsCutShort (state old) (state new) held)
