-- A run of a program, and what was read and written in it.
use Rattle.std.specs.Prelude.{ℕ, ◌≡◌, ◌+◌, ◌≤◌, ◌<◌, List, length, Option}
use Rattle.std.specs.Io.KnownBytes.{Consumes, IsAtEnd}
use Rattle.outside_io.specs.Pieces.{HasPut, IsCutShort, SinkState, ToldOnce}

-- A run, as its caller sees it: the words, the status, and the source and the sink before and after it. What a source has
-- left, how often it has told its end, and what was written to a sink is there where it is told; of the streams of a process
-- nothing is told.
pub record Run : Type 0 where
  pub words : List (List ℕ)
  pub status : ℕ
  pub left : Option (List ℕ)
  pub left_after : Option (List ℕ)
  pub read_faults : ℕ
  pub read_faults_after : ℕ
  pub ends : Option ℕ
  pub ends_after : Option ℕ
  pub sink : SinkState
  pub sink_after : SinkState

-- ---- what was read and written, where an input may have so many bytes at most

-- these bytes were taken from the source: all that it had, until it told its end and no longer, or one byte more than an
-- input may have
pub record HasRead (longest : ℕ) (run : Run) (bytes : List ℕ) : Type 0 where
  pub taken : Consumes run.left run.left_after bytes
  pub within : length bytes ≤ longest + 1
  pub to_the_end : length bytes ≤ longest → IsAtEnd run.left_after × ToldOnce run.ends run.ends_after
  pub not_told : longest < length bytes → run.ends_after ≡ run.ends

-- this text was written, and no write failed
abbrev pub HasWritten : Run → List ℕ → Type 0
HasWritten run text = HasPut run.sink run.sink_after text

-- A front of the text was written, and not all of it, and a write failed, after which nothing was written. At least as much
-- was written as the sink was sure to take: over a sink in memory with no write that is to fail and room for the text it
-- doesn't come.
abbrev pub WasCutShort : Run → List ℕ → Type 0
WasCutShort run text = IsCutShort run.sink run.sink_after text

-- nothing was asked of the source
pub record ReadsNothing (run : Run) : Type 0 where
  pub left : run.left_after ≡ run.left
  pub ends : run.ends_after ≡ run.ends
  pub faults : run.read_faults_after ≡ run.read_faults

-- nothing was asked of the sink
abbrev pub WritesNothing : Run → Type 0
WritesNothing run = run.sink_after ≡ run.sink
