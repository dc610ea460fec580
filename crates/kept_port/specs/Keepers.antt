-- What is known of a port that keeps what it reads and doesn't write again what was written before.
use Rattle.std.specs.Prelude.{ℕ, ◌≡◌, ◌<◌, ◌&&◌, List, [], ◌++◌, length, take, drop, Option, None, Some, Result, OnOk, OnErr, MatchResult}
use Rattle.std.specs.Io.KnownBytes.{Appends, Consumes, Keeps}
use Rattle.outside_io.specs.Pieces.{SinkState}
use Rattle.outside_io.specs.GhostTexts.{bytes_of}
use Rattle.kept_port.specs.declared.log.Log.{Ghosts}
use Rattle.kept_port.specs.declared.keeper.Keeper.{Keeper}

-- what is still to be handed on: these bytes, and what is left below
abbrev pub with_queue : List ℕ → Option (List ℕ) → Option (List ℕ)
with_queue queue None = None
with_queue queue (Some left) = Some (queue ++ left)

module _ {P L : Type 0} {log : Ghosts L} where
  -- what came and wasn't handed on yet
  abbrev pub queued : Keeper P L log → List ℕ
  queued keeper = drop keeper.at keeper.queue.items

  abbrev pub handed_on : Keeper P L log → List ℕ
  handed_on keeper = bytes_of keeper.handed

  module _ (state : P → SinkState) where
    -- All that was written to it is told, also what was not written below, as it was written before. It doesn't tell its end: where the
    -- input below has ended, a read fails.
    abbrev pub keeper_state : Keeper P L log → SinkState
    keeper_state keeper = record (state keeper.below) {
      written = Some (bytes_of keeper.told);
      failed = keeper.failed && (state keeper.below).failed;
      reading = record {
        left = with_queue (queued keeper) (state keeper.below).reading.left;
        faults = keeper.faults;
        ends = Some 0;
        moments = None;
      };
    }

    -- what came from below is queued, or the port hands on nothing more
    pub record Fetches {T E : Type 0} (old new : Keeper P L log) (result : Result T E) : Type 0 where
      pub came : OnOk result ((0 < length (queued new)) × Consumes (state old.below).reading.left (state new.below).reading.left (queued new))
      pub failed : OnErr result ((queued new ≡ []) × Keeps (state old.below).reading.left (state new.below).reading.left)
      pub unwritten : state new.below ≡ record (state old.below) { reading = (state new.below).reading }

    -- What was written below: what is written now, but for what was written before.
    abbrev pub WritesBehind : {E : Type 0} → ℕ → Keeper P L log → Keeper P L log → Result ℕ E → List ℕ → Type 0
    WritesBehind skip old new result piece = MatchResult result (λ n. Appends (state old.below).written (state new.below).written (drop skip (take n piece))) (λ _. Keeps (state old.below).written (state new.below).written)

-- a text has grown by what a call took
abbrev pub Grows : {E : Type 0} → List ℕ → List ℕ → Result ℕ E → List ℕ → Type 0
Grows old new result piece = MatchResult result (λ n. new ≡ old ++ take n piece) (λ _. new ≡ old)
