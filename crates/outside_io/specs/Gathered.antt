-- The parts of a sink that gathers.
use Rattle.std.specs.Prelude.{ℕ, List, take, drop}
use Rattle.std.specs.Borrow.{GName}
use Rattle.outside_io.specs.Pieces.{SinkState}
use Rattle.outside_io.specs.Gathering.{gathering}
use Rattle.outside_io.specs.declared.gathering.GatheringSink.{GatheringSink}

module _ {S : Type 0} where
  -- the sink below it, and the reference to it
  abbrev pub sink_below : GatheringSink S → S
  sink_below sink = sink.below.now

  abbrev pub through : GatheringSink S → GName
  through sink = sink.below.ghost_name

  -- what it has gathered and not handed on
  abbrev pub held : GatheringSink S → List ℕ
  held sink = drop sink.from (take sink.used sink.room.now)

  abbrev pub gathering_state : (S → SinkState) → GatheringSink S → SinkState
  gathering_state state sink = gathering (through sink) (held sink) sink.failed (state (sink_below sink))
