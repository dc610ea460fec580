-- Frames at the front of some bytes.
use Rattle.std.proofs.Common.{◌≡◌, ◌≢◌, ◌⊎◌, inl, inr, ℕ, zero, suc, ◌+◌, ◌*◌, ◌<◌, ◌≤◌, ◌^◌, Bool, true, false, ◌&&◌, List, [], ◌∷◌, ◌++◌, length, take, drop, refl, sym, ap, subst, ◌∙◌, arith, append_assoc, length-drop}
use Rattle.std.specs.Prelude.{nat_eq, nat_le, nat_lt, bytes_eq, if◌then◌else◌}
use Rattle.std.specs.Int.{w32, to_be_bytes, from_be_bytes}
use Rattle.std.specs.List.{concat, list_all}
use Rattle.std.proofs.lemmas.Bool.{and_from, false≢true, eqb-true, ne_eqb, lt-ltb, ltb-true, leb-true}
use Rattle.std.proofs.lemmas.List.{length-append, length-take-le, take-append-drop, take_at, drop_at}
use Rattle.std.proofs.lemmas.List.Folds.{list_all-append}
use Rattle.std.proofs.lemmas.Nat.{from_be_bytes-to_be_bytes_4}
use Rattle.std.proofs.lemmas.Slice.Eq.{bytes_eq-Decides}
use Rattle.sha2.proofs.Facts256.{length-sha256}
use Rattle.kept_text.specs.Frames.{Walk, are_pieces, behind_next, chained, digest_after, frame, framed, has_frame, is_frame_of, is_piece, leads, most, next_text, text_told, walk_of, with_text}

-- ---- two tests

pub both : (x y : Bool) → (x && y) ≡ true → (x ≡ true) × (y ≡ true)
both true y e = (refl, e)
both false y e = absurd (false≢true e)

-- ---- bytes in front

pub leads_there : (front rest : List ℕ) → 0 < length rest → leads front (front ++ rest) ≡ true
leads_there front rest some =
    let same : bytes_eq (take (length front) (front ++ rest)) front ≡ true = (bytes_eq-Decides (take (length front) (front ++ rest)) front).1 (take_at front rest (length front) refl) in
    and_from _ _ (lt-ltb (length front) (length (front ++ rest)) (omega (arith, length-append front rest, some))) same

pub led : (front bytes : List ℕ) → leads front bytes ≡ true → (bytes ≡ front ++ drop (length front) bytes) × (0 < length (drop (length front) bytes))
led front bytes is =
    let parts = both _ _ is in
    let long = ltb-true (length front) (length bytes) parts.0 in
    let same : take (length front) bytes ≡ front = (bytes_eq-Decides (take (length front) bytes) front).0 parts.1 in
    (sym (take-append-drop (length front) bytes) ∙ ap (λ (xs : List ℕ). xs ++ drop (length front) bytes) same, omega (arith, long, length-drop (length front) bytes))

-- ---- one frame

pub piece_size : (text : List ℕ) → is_piece text ≡ true → (0 < length text) × (length text ≤ most)
piece_size text is = let parts = both _ _ is in (ltb-true 0 (length text) parts.0, leb-true (length text) most parts.1)

pub length-frame : (before text : List ℕ) → length (frame before text) ≡ 36 + length text
length-frame before text =
    let four : length (to_be_bytes w32 (length text)) ≡ 4 = refl in
    omega (arith, four, length-append (to_be_bytes w32 (length text)) (chained before text ++ text), length-append (chained before text) text, length-sha256 (before ++ text))

pub told_there : (before text rest : List ℕ) → length text < 2 ^ 32 → text_told (frame before text ++ rest) ≡ text
told_there before text rest small =
    let four : List ℕ = to_be_bytes w32 (length text) in
    let digest : List ℕ = chained before text in
    let long : length four ≡ 4 = refl in
    let size : length (four ++ digest) ≡ 36 = omega (arith, long, length-append four digest, length-sha256 (before ++ text)) in
    let parts : frame before text ++ rest ≡ four ++ (digest ++ (text ++ rest)) = append_assoc four (digest ++ text) rest ∙ ap (λ (xs : List ℕ). four ++ xs) (append_assoc digest text rest) in
    let number : take 4 (frame before text ++ rest) ≡ four = ap (take 4) parts ∙ take_at four (digest ++ (text ++ rest)) 4 refl in
    let told : from_be_bytes w32 (take 4 (frame before text ++ rest)) ≡ length text = ap (from_be_bytes w32) number ∙ from_be_bytes-to_be_bytes_4 (length text) small in
    let behind : drop 36 (frame before text ++ rest) ≡ text ++ rest = ap (drop 36) (parts ∙ sym (append_assoc four digest (text ++ rest))) ∙ drop_at (four ++ digest) (text ++ rest) 36 size in
    (λ i. take (told i) (behind i)) ∙ take_at text rest (length text) refl

-- a frame that stands in front is seen
pub frame_seen : (before text rest : List ℕ) → is_piece text ≡ true → 0 < length rest → has_frame before (1 ∷ (frame before text ++ rest)) ≡ true
frame_seen before text rest piece some =
    let size = piece_size text piece in
    let told = told_there before text rest (omega (arith, size.1)) in
    ap (λ (t : List ℕ). is_frame_of before t (frame before text ++ rest)) told ∙ and_from _ _ piece (leads_there (frame before text) rest some)

pub text_seen : (before text rest : List ℕ) → is_piece text ≡ true → next_text (1 ∷ (frame before text ++ rest)) ≡ text
text_seen before text rest piece = let size = piece_size text piece in told_there before text rest (omega (arith, size.1))

pub rest_seen : (before text rest : List ℕ) → is_piece text ≡ true → behind_next before (1 ∷ (frame before text ++ rest)) ≡ rest
rest_seen before text rest piece =
    ap (λ (t : List ℕ). drop (length (frame before t)) (frame before text ++ rest)) (text_seen before text rest piece) ∙ drop_at (frame before text) rest (length (frame before text)) refl

-- and what is seen stands there
pub record HasNext (before bytes : List ℕ) : Type 0 where
  pub bytes_are : bytes ≡ 1 ∷ (frame before (next_text bytes) ++ behind_next before bytes)
  pub piece : is_piece (next_text bytes) ≡ true
  pub some : 0 < length (behind_next before bytes)

pub next_there : (before bytes : List ℕ) → has_frame before bytes ≡ true → HasNext before bytes
next_there before [] is = absurd (false≢true is)
next_there before (gate ∷ bytes) is =
    let parts = both _ _ is in
    let test = both _ _ parts.1 in
    let front = led (frame before (text_told bytes)) bytes test.1 in
    record {
      bytes_are = λ i. eqb-true gate 1 parts.0 i ∷ front.0 i;
      piece = test.0;
      some = front.1;
    }

pub next_shorter : (before bytes : List ℕ) → HasNext before bytes → length (behind_next before bytes) < length bytes
next_shorter before bytes is =
    let whole = ap length is.bytes_are in
    omega (arith, whole, length-append (frame before (next_text bytes)) (behind_next before bytes))

-- ---- a walk

abbrev pub none_more : List ℕ → Walk
none_more bytes = record { texts = []; left = bytes }

abbrev pub one_more : ℕ → List ℕ → List ℕ → Walk
one_more n before bytes = with_text (next_text bytes) (walk_of n (chained before (next_text bytes)) (behind_next before bytes))

pub walk_stops : (n : ℕ) (before bytes : List ℕ) → has_frame before bytes ≡ false → walk_of n before bytes ≡ none_more bytes
unfolding walk_of
walk_stops zero before bytes none = refl
walk_stops (suc n) before bytes none = ap (λ (b : Bool). if b then one_more n before bytes else none_more bytes) none

pub walk_goes : (n : ℕ) (before bytes : List ℕ) → has_frame before bytes ≡ true → walk_of (suc n) before bytes ≡ one_more n before bytes
unfolding walk_of
walk_goes n before bytes some = ap (λ (b : Bool). if b then one_more n before bytes else none_more bytes) some

closed_stops : (before : List ℕ) (gate : ℕ) (rest : List ℕ) → gate ≢ 1 → has_frame before (gate ∷ rest) ≡ false
closed_stops before gate rest closed = ap (λ (b : Bool). b && is_frame_of before (text_told rest) rest) (ne_eqb gate 1 closed)

some_there : (xs : List ℕ) (gate : ℕ) (rest : List ℕ) → 0 < length (xs ++ gate ∷ rest)
some_there xs gate rest = omega (arith, length-append xs (gate ∷ rest))

-- over frames, where none stands after them
pub walk_over : (n : ℕ) (before : List ℕ) (texts : List (List ℕ)) (gate : ℕ) (rest : List ℕ) → length texts ≤ n → are_pieces texts ≡ true → has_frame (digest_after before texts) (gate ∷ rest) ≡ false → walk_of n before (framed before texts ++ gate ∷ rest) ≡ record { texts = texts; left = gate ∷ rest }
unfolding framed digest_after
walk_over n before [] gate rest few pieces none = walk_stops n before (gate ∷ rest) none
walk_over zero before (text ∷ texts) gate rest few pieces none = absurd (omega (arith, few))
walk_over (suc n) before (text ∷ texts) gate rest few pieces none =
    let parts = both _ _ pieces in
    let digest : List ℕ = chained before text in
    let more : List ℕ = framed digest texts ++ gate ∷ rest in
    let some = some_there (framed digest texts) gate rest in
    let bytes : 1 ∷ (frame before text ++ framed digest texts) ++ gate ∷ rest ≡ 1 ∷ (frame before text ++ more) = ap (λ (xs : List ℕ). 1 ∷ xs) (append_assoc (frame before text) (framed digest texts) (gate ∷ rest)) in
    let told = text_seen before text more parts.0 in
    let left = rest_seen before text more parts.0 in
    let further = walk_over n digest texts gate rest (omega (arith, few)) parts.1 none in
    ap (walk_of (suc n) before) bytes ∙ walk_goes n before (1 ∷ (frame before text ++ more)) (frame_seen before text more parts.0 some)
    ∙ (λ i. with_text (told i) (walk_of n (chained before (told i)) (left i)))
    ∙ ap (λ (w : Walk). with_text text w) further

-- and where a closed gate does
pub walk_framed : (n : ℕ) (before : List ℕ) (texts : List (List ℕ)) (gate : ℕ) (rest : List ℕ) → length texts ≤ n → are_pieces texts ≡ true → gate ≢ 1 → walk_of n before (framed before texts ++ gate ∷ rest) ≡ record { texts = texts; left = gate ∷ rest }
walk_framed n before texts gate rest few pieces closed = walk_over n before texts gate rest few pieces (closed_stops (digest_after before texts) gate rest closed)

-- over any bytes
pub record IsWalk (before bytes : List ℕ) (walk : Walk) : Type 0 where
  pub bytes_are : bytes ≡ framed before walk.texts ++ walk.left
  pub pieces_are : are_pieces walk.texts ≡ true

walk_none : (before bytes : List ℕ) → IsWalk before bytes (none_more bytes)
unfolding framed
walk_none before bytes = record { bytes_are = refl; pieces_are = refl }

walk_more : (before bytes : List ℕ) (walk : Walk) → HasNext before bytes → IsWalk (chained before (next_text bytes)) (behind_next before bytes) walk → IsWalk before bytes (with_text (next_text bytes) walk)
unfolding framed
walk_more before bytes walk next is =
    let text : List ℕ = next_text bytes in
    record {
      bytes_are = next.bytes_are ∙ ap (λ (xs : List ℕ). 1 ∷ (frame before text ++ xs)) is.bytes_are ∙ ap (λ (xs : List ℕ). 1 ∷ xs) (sym (append_assoc (frame before text) (framed (chained before text) walk.texts) walk.left));
      pieces_are = and_from _ _ next.piece is.pieces_are;
    }

walk_next : (n : ℕ) (before bytes : List ℕ) (b : Bool) → has_frame before bytes ≡ b → IsWalk (chained before (next_text bytes)) (behind_next before bytes) (walk_of n (chained before (next_text bytes)) (behind_next before bytes)) → IsWalk before bytes (walk_of (suc n) before bytes)
walk_next n before bytes false e further = subst (IsWalk before bytes) (sym (walk_stops (suc n) before bytes e)) (walk_none before bytes)
walk_next n before bytes true e further =
    subst (IsWalk before bytes) (sym (walk_goes n before bytes e)) (walk_more before bytes (walk_of n (chained before (next_text bytes)) (behind_next before bytes)) (next_there before bytes e) further)

pub walk_is : (n : ℕ) (before bytes : List ℕ) → IsWalk before bytes (walk_of n before bytes)
unfolding walk_of
walk_is zero before bytes = walk_none before bytes
walk_is (suc n) before bytes = walk_next n before bytes (has_frame before bytes) refl (walk_is n (chained before (next_text bytes)) (behind_next before bytes))

none_has : (before bytes : List ℕ) → length bytes ≤ 0 → has_frame before bytes ≡ false
none_has before [] none = refl
none_has before (gate ∷ bytes) none = absurd (omega (arith, none))

abbrev pub HasEnded : ℕ → List ℕ → List ℕ → Type 0
HasEnded n before bytes = has_frame (digest_after before (walk_of n before bytes).texts) (walk_of n before bytes).left ≡ false

ends_next : (n : ℕ) (before bytes : List ℕ) (b : Bool) → has_frame before bytes ≡ b → (has_frame before bytes ≡ true → HasEnded n (chained before (next_text bytes)) (behind_next before bytes)) → HasEnded (suc n) before bytes
unfolding digest_after
ends_next n before bytes false e further = ap (λ (w : Walk). has_frame (digest_after before w.texts) w.left) (walk_stops (suc n) before bytes e) ∙ e
ends_next n before bytes true e further = ap (λ (w : Walk). has_frame (digest_after before w.texts) w.left) (walk_goes n before bytes e) ∙ further e

-- with as many steps as there are bytes no frame stands after it
pub walk_ends : (n : ℕ) (before bytes : List ℕ) → length bytes ≤ n → HasEnded n before bytes
unfolding walk_of digest_after
walk_ends zero before bytes few = none_has before bytes few
walk_ends (suc n) before bytes few =
    ends_next n before bytes (has_frame before bytes) refl (λ e. walk_ends n (chained before (next_text bytes)) (behind_next before bytes) (omega (arith, few, next_shorter before bytes (next_there before bytes e))))

-- ---- several frames

pub framed-append : (before : List ℕ) (xs ys : List (List ℕ)) → framed before (xs ++ ys) ≡ framed before xs ++ framed (digest_after before xs) ys
unfolding framed digest_after
framed-append before [] ys = refl
framed-append before (x ∷ xs) ys =
    ap (λ (zs : List ℕ). 1 ∷ (frame before x ++ zs)) (framed-append (chained before x) xs ys) ∙ ap (λ (zs : List ℕ). 1 ∷ zs) (sym (append_assoc (frame before x) (framed (chained before x) xs) (framed (digest_after (chained before x) xs) ys)))

pub digest-append : (before : List ℕ) (xs ys : List (List ℕ)) → digest_after before (xs ++ ys) ≡ digest_after (digest_after before xs) ys
unfolding digest_after
digest-append before [] ys = refl
digest-append before (x ∷ xs) ys = digest-append (chained before x) xs ys

pub few_frames : (before : List ℕ) (texts : List (List ℕ)) → length texts ≤ length (framed before texts)
unfolding framed
few_frames before [] = omega arith
few_frames before (x ∷ xs) = omega (arith, few_frames (chained before x) xs, length-append (frame before x) (framed (chained before x) xs))
