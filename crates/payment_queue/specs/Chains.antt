-- Slots on bands. A slot that is in stands on one band, at a position of its own there. A place of a band is its beginning or one of
-- its slots, and after each place stands the first slot from there on.
use Rattle.std.specs.Prelude.{◌≡◌, ◌≢◌, ℕ, ◌+◌, ◌≤◌, Bool, true, Option, Some, None}

-- the first position after a place
abbrev pub behind : (ℕ → ℕ) → Option ℕ → ℕ
behind pos None = 0
behind pos (Some s) = pos s + 1

abbrev pub IsOn : (ℕ → Bool) → (ℕ → ℕ) → ℕ → Option ℕ → Type 0
IsOn live band c None = Unit {0}
IsOn live band c (Some s) = (live s ≡ true) × (band s ≡ c)

-- the slot, if one is there, stands at position k or after it
abbrev pub IsFrom : (ℕ → ℕ) → ℕ → Option ℕ → Type 0
IsFrom pos k None = Unit {0}
IsFrom pos k (Some s) = k ≤ pos s

-- a slot is there, and not after slot u
abbrev pub Reaches : (ℕ → ℕ) → Option ℕ → ℕ → Type 0
Reaches pos None u = ⊥
Reaches pos (Some s) u = pos s ≤ pos u

-- a slot of the band that isn't after any that stand at position k or later there; none where there are none such
pub record IsToward (live : ℕ → Bool) (band pos : ℕ → ℕ) (c k : ℕ) (at : Option ℕ) : Type 0 where
  pub on : IsOn live band c at
  pub reaches : (u : ℕ) → live u ≡ true → band u ≡ c → k ≤ pos u → Reaches pos at u

-- of the slots of the band that stand at position k or later, the first
pub record IsFirst (live : ℕ → Bool) (band pos : ℕ → ℕ) (c k : ℕ) (at : Option ℕ) : Type 0 where
  pub toward : IsToward live band pos c k at
  pub there : IsFrom pos k at

-- what `step` gives after a place of a band is the first slot from there on
pub record IsChained (live : ℕ → Bool) (band pos : ℕ → ℕ) (step : Option ℕ → ℕ → Option ℕ) : Type 0 where
  pub each : (at : Option ℕ) (c : ℕ) → IsOn live band c at → IsFirst live band pos c (behind pos at) (step at c)

-- two slots of one band stand at two positions
pub record AreApart (live : ℕ → Bool) (band pos : ℕ → ℕ) : Type 0 where
  pub apart : (u v : ℕ) → live u ≡ true → live v ≡ true → band u ≡ band v → pos u ≡ pos v → u ≡ v

-- ---- one link set anew

-- the place `at` of band d isn't the place `here` of band c
abbrev pub IsElsewhere : Option ℕ → ℕ → Option ℕ → ℕ → Type 0
IsElsewhere None c None d = d ≢ c
IsElsewhere None c (Some t) d = Unit {0}
IsElsewhere (Some s) c None d = Unit {0}
IsElsewhere (Some s) c (Some t) d = t ≢ s

-- after `here` on band c stands `to` from now on
pub record IsHooked (step new : Option ℕ → ℕ → Option ℕ) (here : Option ℕ) (c : ℕ) (to : Option ℕ) : Type 0 where
  pub hooked : new here c ≡ to
  pub elsewhere : (at : Option ℕ) (d : ℕ) → IsElsewhere here c at d → new at d ≡ step at d

-- slot s of band c follows `before` from now on, and comes before `after`
pub record IsPut (step new : Option ℕ → ℕ → Option ℕ) (s c : ℕ) (before after : Option ℕ) : Type 0 where
  pub between : Option ℕ → ℕ → Option ℕ
  pub first : IsHooked step between (Some s) c after
  pub second : IsHooked between new before c (Some s)
