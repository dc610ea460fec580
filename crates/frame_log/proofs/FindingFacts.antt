-- What the bytes of a file tell that are read from its front.
use Rattle.std.proofs.Common.{◌≡◌, ◌≢◌, ◌⊎◌, inl, inr, ℕ, zero, suc, ◌+◌, ◌*◌, ◌<◌, ◌≤◌, ◌^◌, Bool, true, false, ◌&&◌, List, [], ◌∷◌, ◌++◌, length, take, drop, Option, Some, None, Result, Ok, Err, refl, sym, ap, subst, ◌∙◌, arith, append_assoc, length-drop}
use Rattle.std.specs.Prelude.{nat_eq, if◌then◌else◌, IfOk}
use Rattle.std.specs.Int.{w32, to_be_bytes, from_be_bytes}
use Rattle.std.specs.List.{concat, list_all}
use Rattle.std.proofs.lemmas.Bool.{and_from, false≢true, and_right, lt-ltb, le-leb}
use Rattle.std.proofs.lemmas.List.{length-append, length-take-le, take-append-drop, take_at, drop_at, append-nil}
use Rattle.std.proofs.lemmas.List.Folds.{concat-append, list_all-append}
use Rattle.std.proofs.lemmas.Nat.{from_be_bytes-to_be_bytes_4}
use Rattle.sha2.proofs.Facts256.{length-sha256}
use Rattle.kept_text.specs.Frames.{IsFileOf, Walk, are_pieces, chained, digest_after, digest_in, end_in, first_digest, foreign_in, frame, framed, has_frame, has_header, header, is_frame_of, is_piece, most, text_in, text_told, walk_in}
use Rattle.kept_text.proofs.FrameFacts.{both, digest-append, framed-append, frame_seen, led, length-frame, piece_size}
use Rattle.kept_text.proofs.FileFacts.{end_is, files_have_their_texts, foreign_at, stuck_walked, their_digests}
use Rattle.gated_disk.specs.Gates.{is_closed}
use Rattle.frame_log.specs.declared.reading.Frame.{Frame}
use Rattle.frame_log.specs.declared.reading.SoFar.{SoFar}
use Rattle.frame_log.specs.Finding.{HasAdded, IsFound, IsSoFar}

-- ---- a frame in front

-- the parts of a frame that stands in front
pub record HasFrame (before text bytes : List ℕ) : Type 0 where
  pub piece : is_piece text ≡ true
  pub rest : List ℕ
  pub some : 0 < length rest
  pub bytes_are : bytes ≡ (to_be_bytes w32 (length text) ++ chained before text) ++ (text ++ rest)

pub frame_is : (before text bytes : List ℕ) → is_frame_of before text bytes ≡ true → HasFrame before text bytes
frame_is before text bytes is =
    let parts = both _ _ is in
    let front = led (frame before text) bytes parts.1 in
    let rest : List ℕ = drop (length (frame before text)) bytes in
    let four : List ℕ = to_be_bytes w32 (length text) in
    record {
      piece = parts.0;
      rest = rest;
      some = front.1;
      bytes_are = front.0 ∙ append_assoc four (chained before text ++ text) rest ∙ ap (λ (xs : List ℕ). four ++ xs) (append_assoc (chained before text) text rest) ∙ sym (append_assoc four (chained before text) (text ++ rest));
    }

front_size : (before text : List ℕ) → length (to_be_bytes w32 (length text) ++ chained before text) ≡ 36
front_size before text =
    let four : length (to_be_bytes w32 (length text)) ≡ 4 = refl in
    omega (arith, four, length-append (to_be_bytes w32 (length text)) (chained before text), length-sha256 (before ++ text))

pub by_cases : (b : Bool) → (b ≡ true → ⊥) → b ≡ false
by_cases true never = absurd (never refl)
by_cases false never = refl

pub too_short : (before text bytes : List ℕ) → length bytes < 36 → is_frame_of before text bytes ≡ false
too_short before text bytes short = by_cases _ (λ is.
    let has = frame_is before text bytes is in
    omega (arith, short, ap length has.bytes_are, length-append (to_be_bytes w32 (length text) ++ chained before text) (text ++ has.rest), front_size before text))

-- what is in front of it, where these 36 bytes are
same_front : (front rest xs ys : List ℕ) → length front ≡ length xs → front ++ rest ≡ xs ++ ys → (front ≡ xs) × (rest ≡ ys)
same_front front rest xs ys long is =
    (sym (take_at front rest (length front) refl) ∙ ap (take (length front)) is ∙ take_at xs ys (length front) (sym long), sym (drop_at front rest (length front) refl) ∙ ap (drop (length front)) is ∙ drop_at xs ys (length front) (sym long))

pub record FrameParts (before text front rest : List ℕ) : Type 0 where
  pub piece : is_piece text ≡ true
  pub four : to_be_bytes w32 (length text) ≡ take 4 front
  pub digest : chained before text ≡ drop 4 front
  pub behind : List ℕ
  pub some : 0 < length behind
  pub rest_is : rest ≡ text ++ behind

pub parts_of : (before text bytes front rest : List ℕ) → length front ≡ 36 → bytes ≡ front ++ rest → is_frame_of before text bytes ≡ true → FrameParts before text front rest
parts_of before text bytes front rest long bytes_are is =
    let has = frame_is before text bytes is in
    let four : List ℕ = to_be_bytes w32 (length text) in
    let same = same_front front rest (four ++ chained before text) (text ++ has.rest) (omega (arith, long, front_size before text)) (sym bytes_are ∙ has.bytes_are) in
    record {
      piece = has.piece;
      four = sym (ap (take 4) same.0 ∙ take_at four (chained before text) 4 refl);
      digest = sym (ap (drop 4) same.0 ∙ drop_at four (chained before text) 4 refl);
      behind = has.rest;
      some = has.some;
      rest_is = same.1;
    }

-- no frame, where the length isn't that of a piece
pub no_length : (before text bytes front rest : List ℕ) → length front ≡ 36 → bytes ≡ front ++ rest → ((n : ℕ) → n < 2 ^ 32 → to_be_bytes w32 n ≡ take 4 front → 0 < n → n ≤ most → ⊥) → is_frame_of before text bytes ≡ false
no_length before text bytes front rest long bytes_are never = by_cases _ (λ is.
    let parts = parts_of before text bytes front rest long bytes_are is in
    let size = piece_size text parts.piece in
    never (length text) (omega (arith, size.1)) parts.four size.0 size.1)

-- nor where the text isn't whole, or the digest isn't right
pub no_body : (before text bytes front rest : List ℕ) (count : ℕ) → length front ≡ 36 → bytes ≡ front ++ rest → to_be_bytes w32 count ≡ take 4 front → count ≤ most → (count < length rest → chained before (take count rest) ≡ drop 4 front → ⊥) → is_frame_of before text bytes ≡ false
no_body before text bytes front rest count long bytes_are number small never = by_cases _ (λ is.
    let parts = parts_of before text bytes front rest long bytes_are is in
    let size = piece_size text parts.piece in
    let same : count ≡ length text = sym (from_be_bytes-to_be_bytes_4 count (omega (arith, small))) ∙ ap (from_be_bytes w32) (number ∙ sym parts.four) ∙ from_be_bytes-to_be_bytes_4 (length text) (omega (arith, size.1)) in
    let there : take count rest ≡ text = ap (take count) parts.rest_is ∙ take_at text parts.behind count (sym same) in
    never (omega (arith, same, ap length parts.rest_is, length-append text parts.behind, parts.some)) (ap (chained before) there ∙ parts.digest))

-- a frame that was read
pub frame_read : (before text bytes front rest more : List ℕ) (gate count : ℕ) → bytes ≡ front ++ rest → rest ≡ text ++ gate ∷ more → to_be_bytes w32 count ≡ take 4 front → count ≡ length text → chained before text ≡ drop 4 front → bytes ≡ frame before text ++ gate ∷ more
frame_read before text bytes front rest more gate count bytes_are rest_is number long digest =
    let four : take 4 front ≡ to_be_bytes w32 (length text) = sym number ∙ ap (to_be_bytes w32) long in
    bytes_are ∙ ap (λ (xs : List ℕ). front ++ xs) rest_is ∙ ap (λ (xs : List ℕ). xs ++ (text ++ gate ∷ more)) (sym (take-append-drop 4 front) ∙ (λ i. four i ++ sym digest i))
    ∙ append_assoc (to_be_bytes w32 (length text)) (chained before text) (text ++ gate ∷ more)
    ∙ ap (λ (xs : List ℕ). to_be_bytes w32 (length text) ++ xs) (sym (append_assoc (chained before text) text (gate ∷ more)))
    ∙ sym (append_assoc (to_be_bytes w32 (length text)) (chained before text ++ text) (gate ∷ more))

pub piece_of_size : (text : List ℕ) → 0 < length text → length text ≤ most → is_piece text ≡ true
piece_of_size text some few = and_from _ _ (lt-ltb 0 (length text) some) (le-leb (length text) most few)

-- ---- what was found so far

pub first_so_far : (bytes : List ℕ) (gate : ℕ) (rest : List ℕ) → bytes ≡ header ++ gate ∷ rest → IsSoFar bytes [] first_digest 16 0 gate rest
unfolding framed digest_after
first_so_far bytes gate rest is = record {
  pieces = [];
  are = refl;
  bytes_are = is;
  text_is = refl;
  digest_is = refl;
  end_is = refl;
  count_is = refl;
}

last_frame : (before text more : List ℕ) → framed before (text ∷ []) ++ more ≡ 1 ∷ (frame before text ++ more)
unfolding framed
last_frame before text more = ap (λ (xs : List ℕ). 1 ∷ (xs ++ more)) (append-nil (frame before text))

one_size : (before text : List ℕ) → length (framed before (text ∷ [])) ≡ 37 + length text
unfolding framed
one_size before text = omega (arith, length-frame before text, length-append (frame before text) [])

one_digest : (before text : List ℕ) → digest_after before (text ∷ []) ≡ chained before text
unfolding digest_after
one_digest before text = refl

pub next_so_far : (bytes text digest : List ℕ) (end frames gate : ℕ) (rest piece more : List ℕ) (next : ℕ) → IsSoFar bytes text digest end frames gate rest → gate ≡ 1 → is_piece piece ≡ true → rest ≡ frame digest piece ++ next ∷ more → IsSoFar bytes (text ++ piece) (chained digest piece) (end + 37 + length piece) (frames + 1) next more
next_so_far bytes text digest end frames gate rest piece more next so_far one is rest_is =
    let pieces = so_far.pieces in
    let old : List ℕ = framed first_digest pieces in
    let before : List ℕ = digest_after first_digest pieces in
    let last : List ℕ = framed before (piece ∷ []) in
    let new : framed first_digest (pieces ++ piece ∷ []) ≡ old ++ last = framed-append first_digest pieces (piece ∷ []) in
    let there : gate ∷ rest ≡ last ++ next ∷ more = (λ i. one i ∷ rest_is i) ∙ ap (λ (d : List ℕ). 1 ∷ (frame d piece ++ next ∷ more)) so_far.digest_is ∙ sym (last_frame before piece (next ∷ more)) in
    record {
      pieces = pieces ++ piece ∷ [];
      are = list_all-append is_piece pieces (piece ∷ []) ∙ and_from _ _ so_far.are (and_from _ _ is refl);
      bytes_are = so_far.bytes_are ∙ ap (λ (xs : List ℕ). header ++ xs) (ap (λ (xs : List ℕ). old ++ xs) there ∙ sym (append_assoc old last (next ∷ more)) ∙ ap (λ (xs : List ℕ). xs ++ next ∷ more) (sym new));
      text_is = ap (λ (xs : List ℕ). xs ++ piece) so_far.text_is ∙ ap (λ (xs : List ℕ). concat pieces ++ xs) (sym (append-nil piece)) ∙ sym (concat-append pieces (piece ∷ []));
      digest_is = ap (λ (d : List ℕ). chained d piece) so_far.digest_is ∙ sym (digest-append first_digest pieces (piece ∷ []) ∙ one_digest before piece);
      end_is = omega (arith, so_far.end_is, ap length new, length-append old last, one_size before piece);
      count_is = omega (arith, so_far.count_is, length-append pieces (piece ∷ []));
    }

pub ended_so_far : (bytes text digest : List ℕ) (end frames gate : ℕ) (rest : List ℕ) → IsSoFar bytes text digest end frames gate rest → (gate ≡ 1 → ⊥) → (text_in bytes ≡ Some text) × (digest_in bytes ≡ digest) × (end_in bytes ≡ end)
ended_so_far bytes text digest end frames gate rest so_far closed =
    let pieces = so_far.pieces in
    let file : IsFileOf pieces bytes = record { pieces_are = so_far.are; gate = gate; rest = rest; bytes_are = so_far.bytes_are; closed = closed } in (
      files_have_their_texts pieces bytes file ∙ ap (λ (xs : List ℕ). Some xs) (sym so_far.text_is),
      (their_digests pieces bytes file).0 ∙ sym so_far.digest_is,
      omega (arith, end_is pieces bytes file, length-append header (framed first_digest pieces), so_far.end_is),
    )

pub stuck_so_far : (bytes text digest : List ℕ) (end frames gate : ℕ) (rest : List ℕ) → IsSoFar bytes text digest end frames gate rest → gate ≡ 1 → is_frame_of digest (text_told rest) rest ≡ false → foreign_in bytes ≡ Some (frames + 1)
stuck_so_far bytes text digest end frames gate rest so_far one none =
    let pieces = so_far.pieces in
    let before : List ℕ = digest_after first_digest pieces in
    let stuck : has_frame before (gate ∷ rest) ≡ false = (λ i. nat_eq gate 1 && is_frame_of (sym so_far.digest_is i) (text_told rest) rest) ∙ and_right (nat_eq gate 1) _ none in
    let walked = stuck_walked pieces bytes gate rest so_far.are so_far.bytes_are stuck in
    foreign_at bytes pieces (gate ∷ rest) walked.0 walked.1 (ap (λ (n : ℕ). is_closed (n ∷ rest)) one) ∙ ap (λ (n : ℕ). Some n) (omega (arith, so_far.count_is))

pub next_found : (bytes rest more piece : List ℕ) (old new : SoFar) (read : Frame) → IsFound bytes old rest → old.gate ≡ 1 → is_piece piece ≡ true → read.head.count ≡ length piece → read.head.digest ≡ chained old.kept.digest piece → rest ≡ frame old.kept.digest piece ++ read.gate ∷ more → HasAdded old read piece new → IsFound bytes new more
next_found bytes rest more piece old new read so_far one is count digest rest_is added =
    let next = next_so_far bytes old.kept.text.items old.kept.digest old.kept.end old.frames old.gate rest piece more read.gate so_far one is rest_is in
    record {
      pieces = next.pieces;
      are = next.are;
      bytes_are = next.bytes_are ∙ ap (λ (n : ℕ). header ++ (framed first_digest next.pieces ++ n ∷ more)) (sym added.gate_is);
      text_is = added.text_is ∙ next.text_is;
      digest_is = added.digest_is ∙ digest ∙ next.digest_is;
      end_is = omega (arith, added.end_is, count, next.end_is);
      count_is = omega (arith, added.frames_is, next.count_is);
    }

-- before the first frame
pub first_found : (bytes : List ℕ) (gate : ℕ) (rest : List ℕ) (start : SoFar) → start.kept.text.items ≡ [] → start.kept.digest ≡ first_digest → start.kept.end ≡ 16 → start.frames ≡ 0 → start.gate ≡ gate → bytes ≡ header ++ gate ∷ rest → IsFound bytes start rest
first_found bytes gate rest start text digest end frames gate_is is =
    let first = first_so_far bytes gate rest is in
    record {
      pieces = first.pieces;
      are = first.are;
      bytes_are = first.bytes_are ∙ ap (λ (n : ℕ). header ++ (framed first_digest first.pieces ++ n ∷ rest)) (sym gate_is);
      text_is = text ∙ first.text_is;
      digest_is = digest ∙ first.digest_is;
      end_is = end ∙ first.end_is;
      count_is = frames ∙ first.count_is;
    }

pub if_ok : {T E : Type 0} (result : Result T E) (P Q : T → Type 0) → ((x : T) → P x → Q x) → IfOk result P → IfOk result Q
if_ok (Ok x) P Q step is = step x is
if_ok (Err fault) P Q step is = tt
