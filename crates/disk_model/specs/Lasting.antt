-- For how many calls a disk is sure to last.
use Rattle.std.specs.Prelude.{◌≡◌, ℕ, ◌+◌, ◌≤◌}

-- Of a disk that is sure to last for so many calls, so many writes and syncs among them, and so many written bytes, and for any
-- more besides, no call failed, and it is sure to last for those now. Of any other disk this says nothing.
pub record StillLasts {D : Type 0} (lasts : D → ℕ → ℕ → ℕ → Type 0) (faults : D → ℕ) (old new : D) (calls changes bytes : ℕ) : Type 0 where
  pub each : (c e b : ℕ) → lasts old (calls + c) (changes + e) (bytes + b) → lasts new c e b × (faults new ≡ faults old)

-- what is sure to last for some calls lasts for fewer of them
abbrev pub LastsForLess : {D : Type 0} → (D → ℕ → ℕ → ℕ → Type 0) → Type 0
LastsForLess {D} lasts = (disk : D) (c e b calls changes bytes : ℕ) → calls ≤ c → changes ≤ e → bytes ≤ b → lasts disk c e b → lasts disk calls changes bytes
