-- What was asked of a port that keeps and written to it, one after the other.
use Rattle.std.specs.Prelude.{ℕ, ◌≡◌, List, [], ◌∷◌, ◌++◌, length, take, drop, None, Some}
use Rattle.std.specs.Io.KnownBytes.{Appends, Consumes}
use Rattle.outside_io.specs.Pieces.{Moment, SinkState}
use Rattle.outside_io.specs.GhostTexts.{bytes_of}
use Rattle.kept_port.specs.Keepers.{handed_on, keeper_state}
use Rattle.kept_port.specs.declared.log.Log.{Ghosts}
use Rattle.kept_port.specs.declared.keeper.Keeper.{Keeper}
use Rattle.kept_port.specs.declared.story.Story.{Story, Begins, Asked', Wrote'}

-- how it was at first
abbrev pub first_of : {K : Type 0} → Story K → K
first_of (Begins first) = first.value
first_of (Asked' marker before then) = first_of before
first_of (Wrote' marker before then) = first_of before

-- a text begins another one
abbrev pub GrewFrom : List ℕ → List ℕ → Type 0
GrewFrom old new = take (length old) new ≡ old

module _ {P L : Type 0} {log : Ghosts L} (state : P → SinkState) where
  -- what is known of the port at a moment
  abbrev pub moment_of : Keeper P L log → Moment
  moment_of keeper = record { left = (keeper_state state keeper).reading.left; written = Some (bytes_of keeper.told) }

  -- At the head of the moments of a port stands what it had to hand on at first, what had been written below, and how many bytes
  -- of what is written were written before.
  abbrev pub head_of : Keeper P L log → List Moment
  head_of first = record { left = (keeper_state state first).reading.left; written = (state first.below).written } ∷ record { left = Some (first.all_skip ∷ []); written = None } ∷ []

  -- then come the moments at which it was asked and answered
  abbrev pub asked_in : Story (Keeper P L log) → List Moment
  asked_in (Begins first) = head_of first.value
  asked_in (Asked' marker before then) = asked_in before ++ moment_of then.value ∷ []
  asked_in (Wrote' marker before then) = asked_in before

  -- Since it was so at first: what was handed on came from what it had to hand on. What was written below is what was written to it, but
  -- for what was written before.
  pub record IsSince (first now : Keeper P L log) : Type 0 where
    pub skip : now.all_skip ≡ first.all_skip
    pub real : Appends (state first.below).written (state now.below).written (drop first.all_skip (bytes_of now.told))
    pub left : Consumes (keeper_state state first).reading.left (keeper_state state now).reading.left (handed_on now)

  -- Each was later than the one before. Where bytes were written, nothing was handed on until the next.
  abbrev pub Flows : Keeper P L log → Keeper P L log → Story (Keeper P L log) → Type 0
  Flows first now (Begins start) = Unit {0}
  Flows first now (Asked' marker before then) = IsSince first then.value × GrewFrom (bytes_of then.value.told) (bytes_of now.told) × Flows first then.value before
  Flows first now (Wrote' marker before then) = IsSince first then.value × GrewFrom (bytes_of then.value.told) (bytes_of now.told) × (handed_on now ≡ handed_on then.value) × Flows first then.value before
