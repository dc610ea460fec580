-- What a program is that answers while its input comes, and what it promises of a run over a port.
use Rattle.std.specs.Prelude.{ℕ, ◌≡◌, ◌+◌, ◌≤◌, ◌⊎◌, Bool, true, false, List, [], ◌∷◌, ◌++◌, length, Option, Some, None, Result, IfOk}
use Rattle.std.specs.Io.KnownBytes.{Consumes, IsAtEnd}
use Rattle.outside_io.specs.Calls.{Puts}
use Rattle.outside_io.specs.Causes.{Rose, one_more}
use Rattle.outside_io.specs.Pieces.{HasPut, IsCutShort, Moment, SinkState, ToldOnce, no_reading}
use Rattle.program_answers.specs.Answers.{Answer}

-- What bytes call for while more may come; whether nothing that could follow changes the answer; the answer to an input that has ended,
-- or whose answer is settled; and how many bytes may come before it is.
pub record LiveProgram : Type 0 where
  pub told : List ℕ → List ℕ
  pub is_settled : List ℕ → Bool
  pub answer : List ℕ → Answer
  pub longest : ℕ

-- A run: the status, and the port before and after it.
pub record LiveRun : Type 0 where
  pub status : ℕ
  pub port : SinkState
  pub port_after : SinkState

-- ---- what was read and written

-- a port as a sink alone
abbrev pub sink_of : SinkState → SinkState
sink_of port = record port { reading = no_reading }

-- These bytes were read in the run, where that is told. They are no more than settle any answer.
pub record WereTaken (program : LiveProgram) (run : LiveRun) (bytes : List ℕ) : Type 0 where
  pub taken : Consumes run.port.reading.left run.port_after.reading.left bytes
  pub within : length bytes ≤ program.longest + 1

-- Nothing that could follow changes the answer, and then the port isn't asked for its end; or it has told its end, once, and has nothing
-- left.
abbrev pub HasEnded : LiveProgram → LiveRun → List ℕ → Type 0
HasEnded program run bytes =
    ((program.is_settled bytes ≡ true) × (run.port_after.reading.ends ≡ run.port.reading.ends))
    ⊎ (IsAtEnd run.port_after.reading.left × ToldOnce run.port.reading.ends run.port_after.reading.ends)

-- this text was written in the run, and no write failed
abbrev pub WasTold : LiveRun → List ℕ → Type 0
WasTold run text = HasPut (sink_of run.port) (sink_of run.port_after) text

-- a front of it was written, and then a write failed, after which nothing was written
abbrev pub WasToldInPart : LiveRun → List ℕ → Type 0
WasToldInPart run text = IsCutShort (sink_of run.port) (sink_of run.port_after) text

-- ---- the moments at which the port was asked

abbrev pub IsOneOf : Moment → List Moment → Type 0
IsOneOf m [] = ⊥
IsOneOf m (x ∷ xs) = (x ≡ m) ⊎ IsOneOf m xs

-- a moment after those that were told before, where moments are told
abbrev pub IsLater : Option (List Moment) → Option (List Moment) → Moment → Type 0
IsLater (Some before) (Some now) m = (more : List Moment) × (now ≡ before ++ more) × IsOneOf m more
IsLater _ _ m = ⊥

-- moments that were told are told further on, with those of the run after them
abbrev pub KeepsMoments : Option (List Moment) → Option (List Moment) → Type 0
KeepsMoments None now = Unit {0}
KeepsMoments (Some before) None = ⊥
KeepsMoments (Some before) (Some now) = (more : List Moment) × (now ≡ before ++ more)

-- bytes of which it is told that they were read, and that they were written
abbrev pub WereRead : Option (List ℕ) → Option (List ℕ) → List ℕ → Type 0
WereRead (Some before) (Some now) bytes = before ≡ bytes ++ now
WereRead _ _ bytes = ⊥

abbrev pub WereWritten : Option (List ℕ) → Option (List ℕ) → List ℕ → Type 0
WereWritten (Some before) (Some now) bytes = now ≡ before ++ bytes
WereWritten _ _ bytes = ⊥

-- at a moment after those of a port these bytes had been read since, and these written
abbrev pub WasAskedSince : SinkState → Option (List Moment) → List ℕ → List ℕ → Type 0
WasAskedSince port now read written =
    (m : Moment) × IsLater port.reading.moments now m × WereRead port.reading.left m.left read × WereWritten port.written m.written written

-- at a moment of the run at which the port was asked for bytes these had been read in the run, and these written
abbrev pub WasAsked : LiveRun → List ℕ → List ℕ → Type 0
WasAsked run = WasAskedSince run.port run.port_after.reading.moments

-- ---- promises

-- The answer to the bytes that were read was given whole: nothing could follow that changes it, or the port has told its end.
pub record WasAnswered (program : LiveProgram) (run : LiveRun) : Type 0 where
  pub bytes : List ℕ
  pub taken : WereTaken program run bytes
  pub ended : HasEnded program run bytes
  pub status : run.status ≡ (program.answer bytes).status
  pub text : WasTold run (program.answer bytes).text

-- what is due of bytes: what they call for, or, where nothing more is to come, the answer to them
abbrev pub IsDueText : LiveProgram → LiveRun → List ℕ → List ℕ → Type 0
IsDueText program run bytes text = (text ≡ program.told bytes) ⊎ (HasEnded program run bytes × (text ≡ (program.answer bytes).text))

-- a read failed after these bytes, which don't settle the answer; what they call for was written
pub record ReadFailed (program : LiveProgram) (run : LiveRun) : Type 0 where
  pub bytes : List ℕ
  pub taken : WereTaken program run bytes
  pub unsettled : program.is_settled bytes ≡ false
  pub text : WasTold run (program.told bytes)
  pub counted : run.port_after.reading.faults ≡ one_more run.port.reading.faults

-- a write failed: of what is due of the bytes that were read a front was written, and not the whole
pub record WriteFailed (program : LiveProgram) (run : LiveRun) : Type 0 where
  pub bytes : List ℕ
  pub taken : WereTaken program run bytes
  pub due : List ℕ
  pub is : IsDueText program run bytes due
  pub front : WasToldInPart run due

pub record LivePromises (program : LiveProgram) (run : LiveRun) : Type 0 where
  -- the status is that of the answer to the bytes that were read, which was given whole, or 4 or 5
  pub status : ((run.status ≡ 4) ⊎ (run.status ≡ 5)) ⊎ WasAnswered program run
  -- causal and prompt: when the port was asked for more, all was written that the bytes until then call for, and nothing else
  pub prompt : (read written : List ℕ) → WasAsked run read written → written ≡ program.told read
  -- and it wasn't asked where nothing that follows could change the answer
  pub needs_more : (read written : List ℕ) → WasAsked run read written → program.is_settled read ≡ false
  -- a port that told its moments before tells those of the run
  pub moments : KeepsMoments run.port.reading.moments run.port_after.reading.moments
  pub read_fault : run.status ≡ 4 → ReadFailed program run
  pub write_fault : run.status ≡ 5 → WriteFailed program run
  -- with another status no read failed, and no write
  pub no_read_fault : (run.status ≡ 4 → ⊥) → run.port_after.reading.faults ≡ run.port.reading.faults
  pub no_write_fault : (run.status ≡ 5 → ⊥) → run.port_after.faults ≡ run.port.faults
  pub end_told_once : (run.port_after.reading.ends ≡ run.port.reading.ends) ⊎ ToldOnce run.port.reading.ends run.port_after.reading.ends
  -- where neither a read nor a write failed, the answer was given whole
  pub complete : (Rose run.port.reading.faults run.port_after.reading.faults → ⊥) → (Rose run.port.faults run.port_after.faults → ⊥) → WasAnswered program run

-- ---- what a listener promises

-- Some bytes have come, they don't settle the answer, and so many more may come.
pub record MayHear (program : LiveProgram) (Heard : List ℕ → Type 0) (more : ℕ) : Type 0 where
  pub bytes : List ℕ
  pub heard : Heard bytes
  pub unsettled : program.is_settled bytes ≡ false
  pub within : length bytes + more ≤ program.longest + 1

-- It writes what these bytes call for after what the first of them do.
pub record TellsMore {T E : Type 0} (program : LiveProgram) (before now : List ℕ) (old new : SinkState) (result : Result T E) : Type 0 where
  pub text : List ℕ
  pub is : program.told now ≡ program.told before ++ text
  pub put : Puts old new text result

-- It writes the rest of the answer, and gives its status.
pub record Finishes {E : Type 0} (program : LiveProgram) (heard : List ℕ) (old new : SinkState) (result : Result ℕ E) : Type 0 where
  pub text : List ℕ
  pub is : (program.answer heard).text ≡ program.told heard ++ text
  pub status : IfOk result (λ status. status ≡ (program.answer heard).status)
  pub put : Puts old new text result
