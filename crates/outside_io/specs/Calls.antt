-- What one call does to a source or a sink, for contracts.
use Rattle.std.specs.Prelude.{◌≡◌, ℕ, ◌+◌, ◌<◌, ◌≤◌, List, length, Option, Result, IfOk, OnOk, OnErr, MatchResult}
use Rattle.std.specs.Io.KnownBytes.{Consumes}
use Rattle.outside_io.specs.Pieces.{ToldOnce, Layer, SinkState, held_in, Passes, HasPut, IsCutShort}

-- n bytes were taken from the front of what was left
abbrev pub TakesFront : Option (List ℕ) → Option (List ℕ) → ℕ → Type 0
TakesFront old new n = (bytes : List ℕ) × (length bytes ≡ n) × Consumes old new bytes

-- a read tells the end where it gives no byte, and else it doesn't
abbrev pub TellsEnd : {E : Type 0} → Option ℕ → Option ℕ → Result ℕ E → Type 0
TellsEnd old new result = MatchResult result (λ n. (n ≡ 0 → ToldOnce old new) × (0 < n → new ≡ old)) (λ _. new ≡ old)

-- a whole reading has asked until it was told the end, and then no more; it was not told where not all was read
abbrev pub AsksToEnd : {T E : Type 0} → Option ℕ → Option ℕ → Result T E → Type 0
AsksToEnd old new result = MatchResult result (λ _. ToldOnce old new) (λ _. new ≡ old)

-- a write takes at least one byte
abbrev pub TakesSome : {E : Type 0} → Result ℕ E → List ℕ → Type 0
TakesSome result piece = IfOk result (λ n. (0 < n) × (n ≤ length piece))

-- what a write takes came in at the top of the layers
abbrev pub WritePasses : {E : Type 0} → List Layer → List Layer → Result ℕ E → Type 0
WritePasses old new result = MatchResult result (λ n. Passes old new n) (λ _. Passes old new 0)

-- A write of some bytes fails only where the sink at the bottom is sure of none. What it takes of those that are sure is no
-- longer sure; what is held above it was not taken yet.
pub record StaysSure {E : Type 0} (old new : SinkState) (result : Result ℕ E) : Type 0 where
  pub ok : IfOk result (λ n. old.sure + held_in new.layers ≤ held_in old.layers + n + new.sure)
  pub err : OnErr result (old.sure + held_in new.layers ≤ held_in old.layers)

-- a call puts a text into a sink: the whole at Ok, a front of it at Err
pub record Puts {T E : Type 0} (old new : SinkState) (text : List ℕ) (result : Result T E) : Type 0 where
  pub ok : OnOk result (HasPut old new text)
  pub err : OnErr result (IsCutShort old new text)
