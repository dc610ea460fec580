-- What is found of a file that is read from its front.
use Rattle.std.specs.Prelude.{◌≡◌, ℕ, ◌+◌, ◌*◌, ◌<◌, ◌≤◌, ◌^◌, true, false, List, ◌∷◌, ◌++◌, length, take, drop, Option, Some, None}
use Rattle.std.specs.Int.{w32, to_be_bytes}
use Rattle.std.specs.List.{concat}
use Rattle.kept_text.specs.Frames.{are_pieces, chained, digest_after, first_digest, frame, framed, has_header, header, is_frame_of, is_piece, most, text_told}
use Rattle.frame_log.specs.declared.reading.Frame.{Frame}
use Rattle.frame_log.specs.declared.reading.Head.{Head}
use Rattle.frame_log.specs.declared.reading.SoFar.{SoFar}

-- the header, and a byte behind it, which is the first gate; or not
abbrev pub IsFirstGate : Option (List ℕ) → Option (List ℕ) → Option ℕ → Type 0
IsFirstGate old new (Some gate) = (bytes : List ℕ) → old ≡ Some bytes → (rest : List ℕ) × (new ≡ Some rest) × (bytes ≡ header ++ gate ∷ rest)
IsFirstGate old new None = (bytes : List ℕ) → old ≡ Some bytes → has_header bytes ≡ false

-- the length and the digest that are told, where the length is that of a piece
abbrev pub IsHead : List ℕ → Option Head → Type 0
IsHead front (Some head) = (to_be_bytes w32 head.count ≡ take 4 front) × (0 < head.count) × (head.count ≤ most) × (head.digest ≡ drop 4 front)
IsHead front None = (n : ℕ) → n < 2 ^ 32 → to_be_bytes w32 n ≡ take 4 front → 0 < n → n ≤ most → ⊥

-- a text of this length with this digest, and the gate after it; or not
abbrev pub IsBody : List ℕ → ℕ → List ℕ → List ℕ → Option (List ℕ) → Option (List ℕ) → Option ℕ → Type 0
IsBody before count digest text old new (Some gate) =
    (chained before text ≡ digest) × ((bytes : List ℕ) → old ≡ Some bytes → (rest : List ℕ) × (new ≡ Some rest) × (bytes ≡ text ++ gate ∷ rest))
IsBody before count digest text old new None = (bytes : List ℕ) → old ≡ Some bytes → count < length bytes → chained before (take count bytes) ≡ digest → ⊥

-- the frame of the text that is in front of the room; or none
pub record IsFrameRead (before text : List ℕ) (old new : Option (List ℕ)) (read : Frame) : Type 0 where
  pub piece : is_piece text ≡ true
  pub count_is : read.head.count ≡ length text
  pub digest_is : read.head.digest ≡ chained before text
  pub bytes_are : (bytes : List ℕ) → old ≡ Some bytes → (rest : List ℕ) × (new ≡ Some rest) × (bytes ≡ frame before text ++ read.gate ∷ rest)

abbrev pub IsNextFrame : List ℕ → List ℕ → Option (List ℕ) → Option (List ℕ) → Option Frame → Type 0
IsNextFrame before room old new (Some read) = IsFrameRead before (take read.head.count room) old new read
IsNextFrame before room old new None = (bytes : List ℕ) → old ≡ Some bytes → is_frame_of before (text_told bytes) bytes ≡ false

-- So far these pieces were found, in so many frames, and then a gate.
pub record IsSoFar (bytes text digest : List ℕ) (end frames gate : ℕ) (rest : List ℕ) : Type 0 where
  pub pieces : List (List ℕ)
  pub are : are_pieces pieces ≡ true
  pub bytes_are : bytes ≡ header ++ (framed first_digest pieces ++ gate ∷ rest)
  pub text_is : text ≡ concat pieces
  pub digest_is : digest ≡ digest_after first_digest pieces
  pub end_is : end ≡ 16 + length (framed first_digest pieces)
  pub count_is : frames ≡ length pieces

-- a file of these bytes was read up to here, and this is left
abbrev pub IsFound : List ℕ → SoFar → List ℕ → Type 0
IsFound bytes so_far left = IsSoFar bytes so_far.kept.text.items so_far.kept.digest so_far.kept.end so_far.frames so_far.gate left

-- the text is within the limit, and the numbers are small
pub record IsSmall (so_far : SoFar) (limit : ℕ) : Type 0 where
  pub within : length so_far.kept.text.items ≤ limit
  pub end_small : so_far.kept.end ≤ 16 + 38 * length so_far.kept.text.items
  pub frames_small : so_far.frames ≤ length so_far.kept.text.items

-- one frame more, with this text
pub record HasAdded (old : SoFar) (read : Frame) (text : List ℕ) (new : SoFar) : Type 0 where
  pub text_is : new.kept.text.items ≡ old.kept.text.items ++ text
  pub digest_is : new.kept.digest ≡ read.head.digest
  pub end_is : new.kept.end ≡ old.kept.end + 37 + read.head.count
  pub frames_is : new.frames ≡ old.frames + 1
  pub gate_is : new.gate ≡ read.gate
