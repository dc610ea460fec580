-- What an opening tells.
use Rattle.std.specs.Prelude.{◌≡◌, ℕ, ◌<◌, List, [], length, Some}
use Rattle.outside_io.specs.Causes.{one_more}
use Rattle.kept_text.specs.Frames.{foreign_in, text_in}
use Rattle.frame_log.specs.declared.opening.Opened.{Opened}
use Rattle.frame_log.specs.declared.opening.Opened.TheVariants as kinds
use Rattle.frame_log.specs.Reads.{IsLookedAt}
use Rattle.frame_log.specs.Standing.{text_up_to}

module _ {D : Type 0} (seen : D → List ℕ) (image : D → List ℕ → Type 0) (clock : D → ℕ) (since : D → ℕ → List ℕ → Type 0) (faults : D → ℕ) where
  -- a disk with bytes was only looked at
  abbrev pub WasLookedAt : D → D → Type 0
  WasLookedAt disk later = 0 < length (seen disk) → IsLookedAt seen image clock since disk later

  -- A log was found or made: its text is what is sure, no call of it has failed, and it is the text of the bytes, where there were any.
  -- Or the bytes are foreign; or a call of the disk failed, the last and the only one; or the text is too long, or memory was wanting.
  abbrev pub Opens : {g : _} → D → Opened D g → Type 0
  Opens disk (kinds.Log log text) =
      (text.items ≡ text_up_to log.end (seen log.disk)) × (log.faults ≡ 0) × WasLookedAt disk log.disk × (0 < length (seen disk) → text_in (seen disk) ≡ Some text.items) × (seen disk ≡ [] → text.items ≡ [])
  Opens disk (kinds.Foreign later frame) = (foreign_in (seen disk) ≡ Some frame) × (0 < length (seen disk)) × WasLookedAt disk later
  Opens disk (kinds.Fault later) = (faults later ≡ one_more (faults disk)) × WasLookedAt disk later
  Opens disk (kinds.Size later) = WasLookedAt disk later
  Opens disk (kinds.Memory later memory) = WasLookedAt disk later
