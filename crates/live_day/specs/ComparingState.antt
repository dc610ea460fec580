-- The state of a sink that compares, by its parts.
use Rattle.outside_io.specs.Pieces.{SinkState}
use Rattle.outside_io.specs.declared.sink.Sink.{Ghosts}
use Rattle.live_day.specs.declared.comparing.Comparing.{Comparing}
use Rattle.live_day.specs.Comparing.{comparing}
use Rattle.outside_io.specs.GhostTexts.{bytes_of}

abbrev pub comparing_state : {S : Type 0} (g : Ghosts S) → Comparing S g → SinkState
comparing_state g sink = comparing sink.below.ghost_name sink.wanted.now (g.state sink.past.now.first.value).written (bytes_of sink.past.now.text) sink.failed (g.state sink.below.now)
