-- The disk in memory on which a run works, from step to step.
use Rattle.std.specs.Prelude.{ℕ, ◌≡◌, ◌⊎◌, ◌+◌, ◌*◌, ◌-◌, ◌/◌, ◌<◌, ◌≤◌, List, Result, Ok, Err}
use Rattle.refused_memory.specs.{WasRefused}
use Rattle.batch_records.specs.DayRecord.{Day}
use Rattle.commit_journal.specs.Line.{History}
use Rattle.machine.specs.Orders.Bounds.{most_lines, most_moves}
use Rattle.disk_model.specs.Memory.{CutAfter, MemoryDisk, disk_seen}
use Rattle.outside_io.specs.Pieces.{SinkState}
use Rattle.program_answers.specs.Answers.{Answer}
use Rattle.durable_day.specs.Answers.{SaysOne, making_time, store_of}
use Rattle.durable_day.specs.Bytes.{StandsFor}
use Rattle.durable_day.specs.Onward.{StandsOnTheWay, gone_by, gone_on, missing, missing_bytes}

-- the disk that comes back
abbrev pub either : {D : Type 0} → Result D D → D
either (Ok disk) = disk
either (Err disk) = disk

-- Above how many bytes a day's journal can still ask for: of a line its gate, the length, and the text without moves, and the gate
-- that is opened; and the text of each move.
abbrev pub most_bytes : Day → ℕ
most_bytes day = 70 * most_lines day + 40 * most_moves day

-- A disk that nothing was done to, with the bytes that came, which passes so many calls.
pub record IsFresh (calls changes bytes : ℕ) (rest : List ℕ) (disk : MemoryDisk) : Type 0 where
  pub seen : disk_seen disk ≡ rest
  pub none : disk.faults ≡ 0
  pub cut : CutAfter disk calls changes bytes

-- a store, of which the calls that make a new one were used up
pub record IsMadeOf (calls changes bytes : ℕ) (rest : List ℕ) (disk : MemoryDisk) : Type 0 where
  pub seen : disk_seen disk ≡ store_of rest
  pub none : disk.faults ≡ 0
  pub enough : making_time rest ≤ calls
  pub cut : CutAfter disk (calls - making_time rest) changes bytes

-- an open one, which passes so many calls more
pub record IsReady (calls : ℕ) (day : Day) (J : History) (disk : MemoryDisk) : Type 0 where
  pub none : disk.faults ≡ 0
  pub cut : CutAfter disk calls (4 * missing day J) (missing_bytes day J)

-- the complete journal, for which the calls were enough
pub record IsAtItsEnd (calls : ℕ) (day : Day) (J : History) (bytes text : List ℕ) : Type 0 where
  pub enough : 4 * missing day J ≤ calls
  pub shows : text ≡ gone_by day J bytes (4 * missing day J)
  pub stands : StandsFor (gone_on day J) text

-- a store on the way to it, or it
pub record IsOnTheWay (calls : ℕ) (day : Day) (J : History) (bytes text : List ℕ) : Type 0 where
  pub few : calls < 4 * missing day J
  pub shows : text ≡ gone_by day J bytes calls
  pub stands : StandsOnTheWay day J (calls / 4) text

abbrev pub RunsOut : ℕ → Day → History → List ℕ → Answer → Type 0
RunsOut calls day J bytes answer = ((answer.status ≡ 0) × IsAtItsEnd calls day J bytes answer.text) ⊎ ((answer.status ≡ 8) × IsOnTheWay calls day J bytes answer.text)

-- An answer of these is given. Or a request for memory was refused: the disk is handed back, no call of it has failed, and the sink is left as it is.
abbrev pub SaysOneOrBack : {S : Type 0} → (S → SinkState) → S → S → (Answer → Type 0) → Result ℕ MemoryDisk → Type 0
SaysOneOrBack state old new Is (Ok status) = SaysOne (state old) (state new) Is status
SaysOneOrBack state old new Is (Err disk) = (disk.faults ≡ 0) × (new ≡ old) × WasRefused

abbrev pub status_of : Result ℕ MemoryDisk → ℕ
status_of (Ok status) = status
status_of (Err disk) = 1
