-- What readers take, and what is found in what they read.
use Rattle.std.specs.Prelude.{◌≡◌, ℕ, ◌<◌, Bool, true, false, List, ◌++◌, length, Option, Some}
use Rattle.disk_model.specs.Crashes.{AddsNone}
use Rattle.gated_disk.specs.Gates.{RunsOn}
use Rattle.kept_text.specs.Frames.{digest_in, end_in, foreign_in, text_in}
use Rattle.frame_log.specs.declared.reading.Kept.{Kept}
use Rattle.frame_log.specs.declared.reading.Kept.TheVariants as kinds

-- Of known bytes these were taken from the front; or there weren't so many.
abbrev pub Takes : Option (List ℕ) → Option (List ℕ) → List ℕ → Bool → Type 0
Takes old new buf true = (bytes : List ℕ) → old ≡ Some bytes → (rest : List ℕ) × (new ≡ Some rest) × (bytes ≡ buf ++ rest)
Takes old new buf false = (bytes : List ℕ) → old ≡ Some bytes → length bytes < length buf

-- Nothing was written on a disk. There are no more images than there were, nor were there meanwhile.
pub record IsLookedAt {D : Type 0} (seen : D → List ℕ) (image : D → List ℕ → Type 0) (clock : D → ℕ) (since : D → ℕ → List ℕ → Type 0) (old new : D) : Type 0 where
  pub same : seen new ≡ seen old
  pub images : AddsNone (image old) (image new)
  pub runs : RunsOn clock since old new

-- the text that is kept in these bytes, with the digest of its last frame and the place of its closed gate; or the frame that makes
-- them foreign
abbrev pub IsKept : List ℕ → Kept → Type 0
IsKept bytes (kinds.Text kept) = (text_in bytes ≡ Some kept.text.items) × (digest_in bytes ≡ kept.digest) × (end_in bytes ≡ kept.end)
IsKept bytes (kinds.Foreign frame) = foreign_in bytes ≡ Some frame
