-- What the bytes of a file tell, as statements.
use Rattle.std.specs.Prelude.{◌≡◌, ◌≢◌, ◌⊎◌, ℕ, suc, ◌+◌, Bool, true, false, List, [], ◌∷◌, ◌++◌, length, take, Option, Some, None}
use Rattle.std.specs.List.{concat}
use Rattle.gated_disk.specs.Gates.{HasGrown, MayHaveGrown, is_closed}
use Rattle.kept_text.specs.Frames.{IsFileOf, chained, digest_after, digest_in, end_in, first_digest, foreign_in, frame, framed, has_frame, has_header, header, is_piece, text_in}

-- a file of some pieces has their text
abbrev pub FilesHaveTheirTexts : Type 0
FilesHaveTheirTexts = (pieces : List (List ℕ)) (bytes : List ℕ) → IsFileOf pieces bytes → text_in bytes ≡ Some (concat pieces)

-- each text is one of some pieces
abbrev pub TextsHaveTheirFiles : Type 0
TextsHaveTheirFiles = (bytes text : List ℕ) → text_in bytes ≡ Some text → (pieces : List (List ℕ)) × IsFileOf pieces bytes × (concat pieces ≡ text)

-- the digest is that of its last piece, and the end that of its frames
abbrev pub TheirDigests : Type 0
TheirDigests = (pieces : List (List ℕ)) (bytes : List ℕ) → IsFileOf pieces bytes → (digest_in bytes ≡ digest_after first_digest pieces) × (take (end_in bytes) bytes ≡ header ++ framed first_digest pieces)

-- with the same bytes up to the closed gate, and any closed gate and whatever behind it, the text is the same
abbrev pub NothingBehindCounts : Type 0
NothingBehindCounts = (bytes text : List ℕ) (gate : ℕ) (rest : List ℕ) → text_in bytes ≡ Some text → gate ≢ 1 → text_in (take (end_in bytes) bytes ++ gate ∷ rest) ≡ Some text

-- While the frame of a piece and a closed gate are put down behind the closed gate, and then that gate is opened, a crash leaves the
-- same text, or that with the whole piece.
abbrev pub PiecesCountWhole : Type 0
PiecesCountWhole = (bytes text piece c : List ℕ) → text_in bytes ≡ Some text → is_piece piece ≡ true → MayHaveGrown (take (end_in bytes) bytes) (frame (digest_in bytes) piece ++ 0 ∷ []) c → (text_in c ≡ Some text) ⊎ (text_in c ≡ Some (text ++ piece))

-- Once the gate is open, whatever stands behind the frame and its closed gate: the text has the piece, and digest and end are those of
-- its frame.
pub record HasPiece (bytes text piece c : List ℕ) : Type 0 where
  pub text_is : text_in c ≡ Some (text ++ piece)
  pub digest_is : digest_in c ≡ chained (digest_in bytes) piece
  pub end_is : end_in c ≡ end_in bytes + 37 + length piece

abbrev pub PiecesAreAdded : Type 0
PiecesAreAdded = (bytes text piece c : List ℕ) → text_in bytes ≡ Some text → is_piece piece ≡ true → HasGrown (take (end_in bytes) bytes) (frame (digest_in bytes) piece ++ 0 ∷ []) c → HasPiece bytes text piece c

-- Where a frame is told, the bytes have no text: it is that of the header, or they have so many frames less one, and after these
-- neither a closed gate nor a frame behind an open one. So they are no file of any pieces.
pub record IsForeignAt (bytes : List ℕ) (number : ℕ) : Type 0 where
  pub none : text_in bytes ≡ None
  pub no_file : (pieces : List (List ℕ)) → IsFileOf pieces bytes → ⊥
  pub header_is : number ≡ 0 → has_header bytes ≡ false
  pub frames : (before : ℕ) → number ≡ suc before → (pieces : List (List ℕ)) × (left : List ℕ) × (length pieces ≡ before) × (bytes ≡ header ++ (framed first_digest pieces ++ left)) × (is_closed left ≡ false) × (has_frame (digest_after first_digest pieces) left ≡ false)

abbrev pub ForeignFramesAreFirst : Type 0
ForeignFramesAreFirst = (bytes : List ℕ) (number : ℕ) → foreign_in bytes ≡ Some number → IsForeignAt bytes number
