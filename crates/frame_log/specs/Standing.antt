-- What is known of a log on a disk.
use Rattle.std.specs.Prelude.{◌≡◌, ℕ, ◌≤◌, ◌^◌, Bool, true, false, bytes_eq, List, [], ◌∷◌, ◌++◌, length, take, Option, Some, None}
use Rattle.std.specs.Int.{w32, to_be_bytes}
use Rattle.std.specs.Option.{option_map_or}
use Rattle.std.proofs.Props.{props}
use Rattle.disk_model.specs.Crashes.{Only}
use Rattle.kept_text.specs.Frames.{digest_in, end_in, text_in}

-- the text of the frames up to a place
abbrev pub text_up_to : ℕ → List ℕ → List ℕ
text_up_to end bytes = option_map_or (λ (text : List ℕ). text) (text_in (take end bytes ++ 0 ∷ [])) []

-- a text is found in these bytes that begins with this one
abbrev pub finds_from : List ℕ → List ℕ → Bool
finds_from sure bytes = option_map_or (λ (text : List ℕ). bytes_eq (take (length sure) text) sure) (text_in bytes) false

-- A text stands in the bytes, and after its frames a closed gate at this place; the last frame has this digest.
abbrev pub StandsAt : ℕ → List ℕ → List ℕ → Type 0
StandsAt end digest bytes = (text_in bytes ≡ Some (text_up_to end bytes)) × (end_in bytes ≡ end) × (digest_in bytes ≡ digest)

-- and a crash leaves nothing else
abbrev pub IsStanding : {D : Type 0} → (D → List ℕ) → (D → List ℕ → Type 0) → ℕ → List ℕ → D → Type 0
IsStanding seen image end digest disk = StandsAt end digest (seen disk) × Only (seen disk) (image disk)

-- where no call has failed
abbrev pub Stands : {D : Type 0} → (D → List ℕ) → (D → List ℕ → Type 0) → ℕ → List ℕ → ℕ → D → Type 0
Stands seen image end digest faults disk = faults ≡ 0 → IsStanding seen image end digest disk

pub Stands-prop : {D : Type 0} (seen : D → List ℕ) (image : D → List ℕ → Type 0) (end : ℕ) (digest : List ℕ) (faults : ℕ) (disk : D) → IsProp (Stands seen image end digest faults disk)
Stands-prop seen image end digest faults disk = Prim.hlevel props

-- whatever a crash leaves, the text is found there
abbrev pub FindsAll : {D : Type 0} → (D → List ℕ) → (D → List ℕ → Type 0) → ℕ → D → Type 0
FindsAll seen image end disk = (c : List ℕ) → image disk c → finds_from (text_up_to end (seen disk)) c ≡ true

pub FindsAll-prop : {D : Type 0} (seen : D → List ℕ) (image : D → List ℕ → Type 0) (end : ℕ) (disk : D) → IsProp (FindsAll seen image end disk)
FindsAll-prop seen image end disk = Prim.hlevel props

-- the frame of a text with its digest, and a closed gate after it
abbrev pub frame_with : List ℕ → List ℕ → List ℕ
frame_with digest text = ((to_be_bytes w32 (length text) ++ digest) ++ text) ++ 0 ∷ []
