-- What a live day promises that is kept.
use Rattle.std.specs.Prelude.{ℕ, ◌≡◌, ◌≤◌, ◌⊎◌, if◌then◌else◌, List, [], ◌++◌, length, take, drop, Some}
use Rattle.refused_memory.specs.{WasRefused}
use Rattle.outside_io.specs.Pieces.{SinkState}
use Rattle.outside_io.specs.declared.sink.Sink as sinks
use Rattle.kept_port.specs.Kept.{kept_state}
use Rattle.kept_port.specs.Keepers.{handed_on, keeper_state}
use Rattle.kept_port.specs.New.{IsNew}
use Rattle.outside_io.specs.GhostTexts.{bytes_of}
use Rattle.kept_port.specs.declared.keeper.Keeper.{Keeper}
use Rattle.kept_port.specs.declared.log.Log as logs
use Rattle.kept_port.specs.declared.port.KeptPort.{KeptPort}
use Rattle.kept_port.specs.declared.story.Story.{Story, Begins, Asked', Wrote'}
use Rattle.program_answers.specs.LivePrograms.{LivePromises, LiveRun, WereWritten}
use Rattle.live_records.specs.Fates.{IsFront}
use Rattle.live_day.specs.Answers.{is_settled_by, live_answer, looked_at}
use Rattle.live_day.specs.Promises.{Runs, program_of}
use Rattle.live_day.specs.Told.{told}
use Rattle.kept_day.specs.Statuses.{status_of}

-- What a kept text calls for: all that is told of it while more may come, and the last line where nothing that follows changes the answer.
abbrev pub kept_told : List ℕ → List ℕ
kept_told text = if is_settled_by text then (live_answer text).text else told (looked_at text)

-- bytes were written to a port when it was so
abbrev pub WasWritten : {K : Type 0} → Story K → K → Type 0
WasWritten (Begins start) keeper = ⊥
WasWritten (Asked' marker before at) keeper = WasWritten before keeper
WasWritten (Wrote' marker before at) keeper = (at.value ≡ keeper) ⊎ WasWritten before keeper

-- In these bytes a text is found whose answer, but for what was written before, begins with this.
pub record IsSafe {L : Type 0} (log : logs.Ghosts L) (skip : ℕ) (written bytes : List ℕ) : Type 0 where
  pub text : List ℕ
  pub found : log.text_in bytes ≡ Some text
  pub told : IsFront written (drop skip (kept_told text))

module _ {P L : Type 0} {sink : sinks.Ghosts P} {log : logs.Ghosts L} where
  pub record IsFresh (kept : KeptPort P L sink log) : Type 0 where
    pub begins : IsNew kept.story kept.keeper
    pub told : bytes_of kept.keeper.told ≡ []
    pub handed : handed_on kept.keeper ≡ []

  module _ (state : P → SinkState) where
    -- a run over the port, with the status of the day that it hands its bytes on to
    abbrev pub kept_run : KeptPort P L sink log → KeptPort P L sink log → ℕ → LiveRun
    kept_run old new status = record { status = status; port = kept_state state old; port_after = kept_state state new }

    pub record KeptPromises (old new : KeptPort P L sink log) (status : ℕ) : Type 0 where
      -- the status is that of the day, or says why nothing more was handed on to it
      pub day : ℕ
      pub is : status ≡ status_of day new.keeper.halt new.keeper.skip
      -- what the log has, and then what comes from below, is answered as by `run`
      pub asked : (day ≡ 1) ⊎ LivePromises (program_of Runs) (kept_run old new day)
      -- at 1 nothing was read from the port that keeps, and nothing written to it
      pub memory : day ≡ 1 → kept_state state new ≡ kept_state state old
      -- and 1 has a cause: a request for memory was refused
      pub refused : day ≡ 1 → WasRefused
      -- Whenever bytes were written, whatever a crash may leave then has a text that calls for all that was written.
      pub sure : (left : List ℕ) → (keeper_state state old.keeper).reading.left ≡ Some left
          → (keeper : Keeper P L log) → WasWritten new.story keeper
          → (written : List ℕ) → WereWritten (state old.keeper.below).written (state keeper.below).written written
          → (bytes : List ℕ) → log.image keeper.log bytes → IsSafe log old.keeper.all_skip written bytes
      -- what was written before, and what is written now, are together what the whole text calls for
      pub together : (found rest : List ℕ) (skip : ℕ) → skip ≤ length (kept_told found)
          → take skip (kept_told found) ++ drop skip (kept_told (found ++ rest)) ≡ kept_told (found ++ rest)
