-- A run over a port, step by step: what was read and written so far, and what is known of each moment at which the port was asked.
use Rattle.std.specs.Prelude.{ℕ, ◌≡◌, ◌+◌, ◌<◌, ◌≤◌, ◌⊎◌, Bool, true, false, List, length, Option, Result, Ok, Err}
use Rattle.std.specs.Io.KnownBytes.{Consumes, IsAtEnd}
use Rattle.outside_io.specs.Gathered.{gathering_state, sink_below}
use Rattle.outside_io.specs.Pieces.{HasPut, Moment, Reading, SinkState, ToldOnce}
use Rattle.outside_io.specs.declared.gathering.GatheringSink.{GatheringSink}
use Rattle.program_answers.specs.LivePrograms.{KeepsMoments, LiveProgram, LivePromises, LiveRun, WasAskedSince, sink_of}

module _ (program : LiveProgram) where
  -- of each moment so far: what had been written is what the bytes read until then call for, and these didn't settle the answer
  abbrev pub IsPrompt : SinkState → Option (List Moment) → Type 0
  IsPrompt start moments = (read written : List ℕ) → WasAskedSince start moments read written → (written ≡ program.told read) × (program.is_settled read ≡ false)

  -- these bytes were read, and more may come
  pub record Listens (start : SinkState) (now : Reading) (heard : List ℕ) : Type 0 where
    pub taken : Consumes start.reading.left now.left heard
    pub within : length heard ≤ program.longest + 1
    pub faults : now.faults ≡ start.reading.faults
    pub ends : now.ends ≡ start.reading.ends
    pub moments : KeepsMoments start.reading.moments now.moments
    pub prompt : IsPrompt start now.moments

  -- these bytes were read, and nothing more is to come
  pub record HasListened (start : SinkState) (now : Reading) (heard : List ℕ) : Type 0 where
    pub taken : Consumes start.reading.left now.left heard
    pub within : length heard ≤ program.longest + 1
    pub faults : now.faults ≡ start.reading.faults
    pub ended : ((program.is_settled heard ≡ true) × (now.ends ≡ start.reading.ends)) ⊎ (IsAtEnd now.left × ToldOnce start.reading.ends now.ends)
    pub moments : KeepsMoments start.reading.moments now.moments
    pub prompt : IsPrompt start now.moments

  module _ {S : Type 0} (state : S → SinkState) where
    -- what was written to a sink that gathers, where reads of the port below it aren't looked at
    abbrev pub HasGathered : GatheringSink S → GatheringSink S → List ℕ → Type 0
    HasGathered first now text = HasPut (sink_of (gathering_state state first)) (sink_of (gathering_state state now)) text

    -- so far these bytes were read from the port below, and all was gathered that they call for
    pub record IsUnderway (first now : GatheringSink S) (heard : List ℕ) : Type 0 where
      pub listens : Listens (state (sink_below first)) (state (sink_below now)).reading heard
      pub told : HasGathered first now (program.told heard)

    -- and no more are to come
    pub record HasAllHeard (first now : GatheringSink S) (heard : List ℕ) : Type 0 where
      pub listened : HasListened (state (sink_below first)) (state (sink_below now)).reading heard
      pub told : HasGathered first now (program.told heard)

    -- a run over the port below, which is over
    abbrev pub run_between : GatheringSink S → GatheringSink S → ℕ → LiveRun
    run_between first last status = record { status = status; port = state (sink_below first); port_after = state (sink_below last) }

    -- Of a listener that has heard some bytes: what it has heard now, some bytes more, or the same, where there are no more; or the run is over,
    -- with this status.
    abbrev pub GoesOn : (List ℕ → Type 0) → GatheringSink S → GatheringSink S → List ℕ → Result Bool ℕ → Type 0
    GoesOn Heard first now before (Ok true) = (heard : List ℕ) × Heard heard × (length before < length heard) × IsUnderway first now heard
    GoesOn Heard first now before (Ok false) = Heard before × HasAllHeard first now before
    GoesOn Heard first now before (Err status) = LivePromises program (run_between first now status)

    abbrev pub HearsAll : {T : Type 0} → (List ℕ → Type 0) → GatheringSink S → GatheringSink S → Result T ℕ → Type 0
    HearsAll Heard first now (Ok value) = (heard : List ℕ) × Heard heard × HasAllHeard first now heard
    HearsAll Heard first now (Err status) = LivePromises program (run_between first now status)
