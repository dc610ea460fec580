-- How an answer is given: what a status and a sink say of it, for contracts.
use Rattle.std.specs.Prelude.{ℕ, ◌≡◌, ◌⊎◌, List, Result, Ok, Err}
use Rattle.refused_memory.specs.{WasRefused}
use Rattle.outside_io.specs.Pieces.{HasPut, IsCutShort, SinkState}
use Rattle.program_answers.specs.Answers.{Answer}

-- The whole text is written and the status is the answer's, or the sink fails and a front of the text is written.
abbrev pub Says : SinkState → SinkState → Answer → ℕ → Type 0
Says old new answer status = ((status ≡ answer.status) × HasPut old new answer.text) ⊎ ((status ≡ 5) × IsCutShort old new answer.text)

-- or a request for memory was refused, and the sink is left as it is
abbrev pub SaysIfRoom : {S : Type 0} → (S → SinkState) → S → S → Answer → ℕ → Type 0
SaysIfRoom state old new answer status = ((status ≡ 1) × (new ≡ old) × WasRefused) ⊎ Says (state old) (state new) answer status

-- an answer of these is given, or a request for memory was refused, and the sink is left as it is
abbrev pub SaysOneIfRoom : {S : Type 0} → (S → SinkState) → S → S → (Answer → Type 0) → ℕ → Type 0
SaysOneIfRoom state old new Is status = ((status ≡ 1) × (new ≡ old) × WasRefused) ⊎ ((answer : Answer) × Is answer × Says (state old) (state new) answer status)

-- The rest of an answer that is held is handed on to the sink below, unless a write failed before or nothing was written.
-- The status is that of the answer, or 5 where the sink fails now.
pub record HandsOver {S : Type 0} (state : S → SinkState) (old new : S) (held : List ℕ) (status end : ℕ) : Type 0 where
  pub none : status ≡ 1 → (end ≡ 1) × (new ≡ old)
  pub cut : status ≡ 5 → (end ≡ 5) × (new ≡ old)
  pub rest : (status ≡ 1 → ⊥) → (status ≡ 5 → ⊥) → ((end ≡ status) × HasPut (state old) (state new) held) ⊎ ((end ≡ 5) × IsCutShort (state old) (state new) held)

-- the status, unless the sink failed
abbrev pub status_after : {T E : Type 0} → ℕ → Result T E → ℕ
status_after status (Ok value) = status
status_after status (Err fault) = 5
