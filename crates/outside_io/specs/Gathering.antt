-- What a sink that gathers is, seen from above and from below.
use Rattle.std.specs.Prelude.{◌≡◌, ℕ, Bool, ◌&&◌, List, [], ◌∷◌, length, drop, Result, OnOk, OnErr}
use Rattle.std.specs.Borrow.{GName}
use Rattle.std.specs.Io.KnownBytes.{append_known}
use Rattle.outside_io.specs.Pieces.{SinkState, HasPut, IsCutShort}

-- The state of a sink that holds these bytes in front of another. Its last write failed where it was told so and the last
-- write below failed.
abbrev pub gathering : GName → List ℕ → Bool → SinkState → SinkState
gathering through held failed below = record {
  written = append_known below.written held;
  faults = below.faults;
  failed = failed && below.failed;
  sure = below.sure;
  layers = record { through = through; held = length held } ∷ below.layers;
  reading = below.reading;
}

-- What was held is handed on to the sink below: all of it, or a front of it, and then the rest is held.
pub record HandsOn {T E : Type 0} (old new : SinkState) (before now : List ℕ) (result : Result T E) : Type 0 where
  pub ok : OnOk result ((now ≡ []) × HasPut old new before)
  pub err : OnErr result ((cut : IsCutShort old new before) × (now ≡ drop cut.count before))
