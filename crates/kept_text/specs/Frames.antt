-- The file of a kept day: a header, and frames, each behind a gate.
use Rattle.std.specs.Prelude.{◌≡◌, ◌≢◌, ℕ, zero, suc, ◌+◌, Bool, true, false, ◌&&◌, not, nat_eq, nat_le, nat_lt, bytes_eq, if◌then◌else◌, List, [], ◌∷◌, ◌++◌, length, take, drop, Option, Some, None, IsTrue}
use Rattle.std.specs.Int.{w32, to_be_bytes, from_be_bytes}
use Rattle.std.specs.List.{concat, list_all}
use Rattle.gated_disk.specs.Gates.{is_closed}
use Rattle.sha2.specs.Sha256.{sha256}

-- `GAURVISK KEPT 1` and LF
abbrev pub header : List ℕ
header = 71 ∷ 65 ∷ 85 ∷ 82 ∷ 86 ∷ 73 ∷ 83 ∷ 75 ∷ 32 ∷ 75 ∷ 69 ∷ 80 ∷ 84 ∷ 32 ∷ 49 ∷ 10 ∷ []

-- how many bytes a piece has at most
abbrev pub most : ℕ
most = 16384

abbrev pub is_piece : List ℕ → Bool
is_piece text = nat_lt 0 (length text) && nat_le (length text) most

-- ---- frames

-- the digest of a frame: of the one before it, and of its text
abbrev pub chained : List ℕ → List ℕ → List ℕ
chained before text = sha256 (before ++ text)

-- the one before the first
abbrev pub first_digest : List ℕ
first_digest = sha256 header

-- What stands behind the gate of a text: how long it is in four bytes, the highest first, the digest, and the text. The digest before
-- is given.
abbrev pub frame : List ℕ → List ℕ → List ℕ
frame before text = to_be_bytes w32 (length text) ++ (chained before text ++ text)

-- these texts in frames, each behind an open gate
unfoldable pub framed : List ℕ → List (List ℕ) → List ℕ
framed before [] = []
framed before (text ∷ texts) = 1 ∷ (frame before text ++ framed (chained before text) texts)

-- the digest of the last of them
unfoldable pub digest_after : List ℕ → List (List ℕ) → List ℕ
digest_after before [] = before
digest_after before (text ∷ texts) = digest_after (chained before text) texts

abbrev pub are_pieces : List (List ℕ) → Bool
are_pieces texts = list_all is_piece texts

-- The bytes are a file of these pieces: the header, their frames, and a byte that isn't 1, which closes them; and whatever stands
-- behind it.
pub record IsFileOf (pieces : List (List ℕ)) (bytes : List ℕ) : Type 0 where
  pub pieces_are : are_pieces pieces ≡ true
  pub gate : ℕ
  pub rest : List ℕ
  pub bytes_are : bytes ≡ header ++ (framed first_digest pieces ++ gate ∷ rest)
  pub closed : gate ≢ 1

-- ---- the frames at the front of some bytes, computed

-- the text behind a length and a digest, as long as the length tells
abbrev pub text_told : List ℕ → List ℕ
text_told bytes = take (from_be_bytes w32 (take 4 bytes)) (drop 36 bytes)

-- these bytes stand in front, and a byte more
abbrev pub leads : List ℕ → List ℕ → Bool
leads front bytes = nat_lt (length front) (length bytes) && bytes_eq (take (length front) bytes) front

-- the frame of this text stands in front, and a byte more, which is the next gate
abbrev pub is_frame_of : List ℕ → List ℕ → List ℕ → Bool
is_frame_of before text bytes = is_piece text && leads (frame before text) bytes

-- an open gate stands in front, and behind it the frame of the text that is told there
abbrev pub has_frame : List ℕ → List ℕ → Bool
has_frame before [] = false
has_frame before (gate ∷ bytes) = nat_eq gate 1 && is_frame_of before (text_told bytes) bytes

-- the texts of some frames, and the bytes from the gate after them on
pub record Walk : Type 0 where
  pub texts : List (List ℕ)
  pub left : List ℕ

abbrev pub with_text : List ℕ → Walk → Walk
with_text text walk = record { texts = text ∷ walk.texts; left = walk.left }

-- the text that is told behind the gate in front, and the bytes from the gate after its frame on
abbrev pub next_text : List ℕ → List ℕ
next_text bytes = text_told (drop 1 bytes)

abbrev pub behind_next : List ℕ → List ℕ → List ℕ
behind_next before bytes = drop (length (frame before (next_text bytes))) (drop 1 bytes)

-- the frames that stand in front, at most so many of them
unfoldable pub walk_of : ℕ → List ℕ → List ℕ → Walk
walk_of zero before bytes = record { texts = []; left = bytes }
walk_of (suc n) before bytes =
    if has_frame before bytes then with_text (next_text bytes) (walk_of n (chained before (next_text bytes)) (behind_next before bytes))
    else record { texts = []; left = bytes }

-- the header stands in front, and a byte more, which is the first gate
abbrev pub has_header : List ℕ → Bool
has_header bytes = leads header bytes

-- those of a file; there are no more frames than bytes
abbrev pub walk_in : List ℕ → Walk
walk_in bytes = walk_of (length bytes) first_digest (drop 16 bytes)

-- ---- what a file tells

-- a closed gate ends the frames
abbrev pub is_file : List ℕ → Bool
is_file bytes = has_header bytes && is_closed (walk_in bytes).left

-- the kept text of the bytes of a file, none of foreign ones
unfoldable pub text_in : List ℕ → Option (List ℕ)
text_in bytes = if is_file bytes then Some (concat (walk_in bytes).texts) else None

-- the frame that makes them foreign, from 1, and 0 for the header
unfoldable pub foreign_in : List ℕ → Option ℕ
foreign_in bytes = if has_header bytes then (if is_closed (walk_in bytes).left then None else Some (suc (length (walk_in bytes).texts))) else Some 0

-- the digest of the last frame, and that of the header where there is none
unfoldable pub digest_in : List ℕ → List ℕ
digest_in bytes = digest_after first_digest (walk_in bytes).texts

-- where the closed gate stands
unfoldable pub end_in : List ℕ → ℕ
end_in bytes = 16 + length (framed first_digest (walk_in bytes).texts)
