-- What a disk shows that is cut after some calls.
use Rattle.std.specs.Prelude.{◌≡◌, ℕ, zero, suc, ◌+◌, ◌<◌, ◌≤◌, Bool, true, false, List}

-- these bytes before a call, and those from then on
abbrev pub once : List ℕ → List ℕ → ℕ → List ℕ
once old new zero = old
once old new (suc n) = new

-- Some calls, one after the other, so many writes and syncs among them, and so many bytes in what is written. Of a disk that passes
-- them all and so many more, all went well: it passes those, and shows what is to be seen after all. Of a disk that passes
-- fewer, the call after these failed, and none was tried after it: it shows what is to be seen after those that passed. Of a disk
-- of which it isn't known how many calls it passes, this says nothing.
pub record IsCut {D : Type 0} (seen : D → List ℕ) (cut_after : D → ℕ → ℕ → ℕ → Type 0) (old new : D) (well : Bool) (calls changes bytes : ℕ) (shows : ℕ → List ℕ) : Type 0 where
  pub enough : (c e b : ℕ) → cut_after old (calls + c) (changes + e) (bytes + b) → (well ≡ true) × cut_after new c e b × (seen new ≡ shows calls)
  pub short : (c e b : ℕ) → c < calls → cut_after old c (changes + e) (bytes + b) → (well ≡ false) × (seen new ≡ shows c)

-- what is known for some writes, syncs and bytes is known for fewer of them
abbrev pub IsCutForLess : {D : Type 0} → (D → ℕ → ℕ → ℕ → Type 0) → Type 0
IsCutForLess {D} cut_after = (disk : D) (calls e b changes bytes : ℕ) → changes ≤ e → bytes ≤ b → cut_after disk calls e b → cut_after disk calls changes bytes
