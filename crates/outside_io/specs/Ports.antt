-- What a read does to a port, for contracts.
use Rattle.std.specs.Prelude.{◌≡◌, ◌≤◌, List, [], ◌∷◌, ◌++◌, ℕ, Option, option_map, Result, MatchResult}
use Rattle.std.specs.Io.{ReadsAtMost}
use Rattle.std.specs.Io.KnownBytes.{ReadConsumes}
use Rattle.outside_io.specs.Calls.{TellsEnd}
use Rattle.outside_io.specs.Causes.{CountsFaults}
use Rattle.outside_io.specs.Pieces.{Moment, SinkState}

-- now
abbrev pub moment_of : SinkState → Moment
moment_of port = record { left = port.reading.left; written = port.written }

-- and all moments before it
abbrev pub with_moment : SinkState → Option (List Moment)
with_moment port = option_map (λ moments. moments ++ moment_of port ∷ []) port.reading.moments

-- a read that was answered is a moment more, and one that failed is none
abbrev pub Marks : {E : Type 0} → SinkState → SinkState → Result ℕ E → Type 0
Marks old new result = MatchResult result (λ _. new.reading.moments ≡ with_moment old) (λ _. new.reading.moments ≡ old.reading.moments)

-- A port was asked for bytes. Nothing was written, and what is known of what was written stays.
pub record Asks {E : Type 0} (old new : SinkState) (result : Result ℕ E) (buf : List ℕ) : Type 0 where
  pub bound : ReadsAtMost result buf
  pub bytes : ReadConsumes old.reading.left new.reading.left result buf
  pub later : old.reading.faults ≤ new.reading.faults
  pub count : CountsFaults old.reading.faults new.reading.faults result
  pub end : TellsEnd old.reading.ends new.reading.ends result
  pub moment : Marks old new result
  pub unwritten : new ≡ record old { reading = new.reading }
