-- What is known of a port that keeps.
use Rattle.std.specs.Prelude.{ℕ, ◌≡◌, Some, Result, MatchResult}
use Rattle.outside_io.specs.Pieces.{SinkState}
use Rattle.outside_io.specs.declared.sink.Sink as sinks
use Rattle.kept_port.specs.Keepers.{keeper_state}
use Rattle.kept_port.specs.Stories.{asked_in}
use Rattle.kept_port.specs.declared.log.Log as logs
use Rattle.kept_port.specs.declared.port.KeptPort.{KeptPort}
use Rattle.kept_port.specs.declared.story.Story.{Story, Asked', Wrote'}

-- a write was noted after all before it: how it was then
abbrev pub HasWritten : {K : Type 0} → Story K → K → Story K → Type 0
HasWritten before then (Wrote' marker story keeper) = (story ≡ before) × (keeper.value ≡ then)
HasWritten before then _ = ⊥

-- a question was: how it was when it was asked
abbrev pub HasAsked : {K : Type 0} → Story K → K → Story K → Type 0
HasAsked before then (Asked' marker story keeper) = (story ≡ before) × (keeper.value ≡ then)
HasAsked before then _ = ⊥

-- each write that took bytes is noted, and nothing else by a write
abbrev pub NotesWrite : {K E : Type 0} → Story K → K → Story K → Result ℕ E → Type 0
NotesWrite old then new result = MatchResult result (λ _. HasWritten old then new) (λ _. new ≡ old)

-- each read that was answered is noted, and nothing else by a read
abbrev pub NotesRead : {K E : Type 0} → Story K → K → Story K → Result ℕ E → Type 0
NotesRead old then new result = MatchResult result (λ _. HasAsked old then new) (λ _. new ≡ old)

module _ {P L : Type 0} {sink : sinks.Ghosts P} {log : logs.Ghosts L} where
  -- what it tells as a port, with the moments at which it was asked
  abbrev pub kept_state : (P → SinkState) → KeptPort P L sink log → SinkState
  kept_state state kept = record (keeper_state state kept.keeper) {
    reading = record (keeper_state state kept.keeper).reading {
      moments = Some (asked_in state kept.story);
    };
  }
