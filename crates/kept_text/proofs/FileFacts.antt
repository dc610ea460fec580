-- What the bytes of a file tell.
use Rattle.std.proofs.Common.{◌≡◌, ◌≢◌, ◌⊎◌, inl, inr, ℕ, zero, suc, ◌+◌, ◌<◌, ◌≤◌, Bool, true, false, not, ◌&&◌, List, [], ◌∷◌, ◌++◌, length, take, drop, Option, Some, None, length-drop, refl, sym, ap, subst, ◌∙◌, arith, append_assoc}
use Rattle.std.specs.Prelude.{nat_eq, if◌then◌else◌}
use Rattle.std.specs.List.{concat, list_all}
use Rattle.std.proofs.lemmas.Bool.{and_from, and_cases, false≢true, true≢false, eqb-true, eqb-false, ne_eqb}
use Rattle.std.proofs.lemmas.List.{length-append, take_at, drop_at, append-nil}
use Rattle.std.proofs.lemmas.List.Folds.{concat-append, list_all-append}
use Rattle.gated_disk.specs.Gates.{HasGrown, MayHaveGrown, is_closed}
use Rattle.gated_disk.proofs.AppendFacts.{gate_is}
use Rattle.kept_text.specs.Frames.{IsFileOf, Walk, are_pieces, chained, digest_after, digest_in, end_in, first_digest, foreign_in, frame, framed, has_frame, has_header, header, is_file, is_piece, text_in, walk_in, walk_of}
use Rattle.kept_text.specs.Laws.{FilesHaveTheirTexts, ForeignFramesAreFirst, IsForeignAt, NothingBehindCounts, PiecesAreAdded, PiecesCountWhole, TextsHaveTheirFiles, TheirDigests}
use Rattle.kept_text.proofs.FrameFacts.{both, digest-append, few_frames, framed-append, leads_there, length-frame, led, walk_ends, walk_framed, walk_is, walk_over}

-- ---- a file of pieces

abbrev pub file_walk : (pieces : List (List ℕ)) (gate : ℕ) (rest : List ℕ) → Walk
file_walk pieces gate rest = record { texts = pieces; left = gate ∷ rest }

pub file_headed : (pieces : List (List ℕ)) (bytes : List ℕ) → IsFileOf pieces bytes → has_header bytes ≡ true
file_headed pieces bytes is =
    let rest : List ℕ = framed first_digest pieces ++ is.gate ∷ is.rest in
    ap has_header is.bytes_are ∙ leads_there header rest (omega (arith, length-append (framed first_digest pieces) (is.gate ∷ is.rest)))

pub file_walked : (pieces : List (List ℕ)) (bytes : List ℕ) → (is : IsFileOf pieces bytes) → walk_in bytes ≡ file_walk pieces is.gate is.rest
file_walked pieces bytes is =
    let rest : List ℕ = framed first_digest pieces ++ is.gate ∷ is.rest in
    let behind : drop 16 bytes ≡ rest = ap (drop 16) is.bytes_are in
    let size = ap length is.bytes_are in
    let few : length pieces ≤ length bytes = omega (arith, few_frames first_digest pieces, size, length-append header rest, length-append (framed first_digest pieces) (is.gate ∷ is.rest)) in
    ap (λ (xs : List ℕ). walk_of (length bytes) first_digest xs) behind ∙ walk_framed (length bytes) first_digest pieces is.gate is.rest few is.pieces_are is.closed

-- frames, and after them neither another one nor a closed gate
pub stuck_walked : (pieces : List (List ℕ)) (bytes : List ℕ) (gate : ℕ) (rest : List ℕ) → are_pieces pieces ≡ true → bytes ≡ header ++ (framed first_digest pieces ++ gate ∷ rest) → has_frame (digest_after first_digest pieces) (gate ∷ rest) ≡ false → (has_header bytes ≡ true) × (walk_in bytes ≡ file_walk pieces gate rest)
stuck_walked pieces bytes gate rest are is none =
    let more : List ℕ = framed first_digest pieces ++ gate ∷ rest in
    let behind : drop 16 bytes ≡ more = ap (drop 16) is in
    let size = ap length is in
    let few : length pieces ≤ length bytes = omega (arith, few_frames first_digest pieces, size, length-append header more, length-append (framed first_digest pieces) (gate ∷ rest)) in (
      ap has_header is ∙ leads_there header more (omega (arith, length-append (framed first_digest pieces) (gate ∷ rest))),
      ap (λ (xs : List ℕ). walk_of (length bytes) first_digest xs) behind ∙ walk_over (length bytes) first_digest pieces gate rest few are none,
    )

gate_closed : (gate : ℕ) (rest : List ℕ) → gate ≢ 1 → is_closed (gate ∷ rest) ≡ true
gate_closed gate rest closed = ap not (ne_eqb gate 1 closed)

pub file_closed : (pieces : List (List ℕ)) (bytes : List ℕ) → IsFileOf pieces bytes → is_closed (walk_in bytes).left ≡ true
file_closed pieces bytes is = ap (λ (w : Walk). is_closed w.left) (file_walked pieces bytes is) ∙ gate_closed is.gate is.rest is.closed

text_of : (bytes : List ℕ) → is_file bytes ≡ true → text_in bytes ≡ Some (concat (walk_in bytes).texts)
unfolding text_in
text_of bytes is = ap (λ (b : Bool). if b then Some (concat (walk_in bytes).texts) else None) is

no_text : (bytes : List ℕ) → is_file bytes ≡ false → text_in bytes ≡ None
unfolding text_in
no_text bytes is = ap (λ (b : Bool). if b then Some (concat (walk_in bytes).texts) else None) is

pub files_have_their_texts : FilesHaveTheirTexts
files_have_their_texts pieces bytes is =
    text_of bytes (and_from _ _ (file_headed pieces bytes is) (file_closed pieces bytes is)) ∙ ap (λ (w : Walk). Some (concat w.texts)) (file_walked pieces bytes is)

front_taken : (bytes front rest : List ℕ) (n : ℕ) → n ≡ length front → bytes ≡ front ++ rest → take n bytes ≡ front
front_taken bytes front rest n long is = ap (take n) is ∙ take_at front rest n (sym long)

pub front_of : (pieces : List (List ℕ)) → List ℕ
front_of pieces = header ++ framed first_digest pieces

pub their_digests : TheirDigests
unfolding digest_in end_in
their_digests pieces bytes is =
    let walked = file_walked pieces bytes is in
    let end : end_in bytes ≡ length (header ++ framed first_digest pieces) = ap (λ (w : Walk). 16 + length (framed first_digest w.texts)) walked ∙ sym (length-append header (framed first_digest pieces)) in
    let parts : bytes ≡ (header ++ framed first_digest pieces) ++ is.gate ∷ is.rest = is.bytes_are ∙ sym (append_assoc header (framed first_digest pieces) (is.gate ∷ is.rest)) in
    (ap (λ (w : Walk). digest_after first_digest w.texts) walked, front_taken bytes (header ++ framed first_digest pieces) (is.gate ∷ is.rest) (end_in bytes) end parts)

pub end_is : (pieces : List (List ℕ)) (bytes : List ℕ) → IsFileOf pieces bytes → end_in bytes ≡ length (header ++ framed first_digest pieces)
unfolding end_in
end_is pieces bytes is = ap (λ (w : Walk). 16 + length (framed first_digest w.texts)) (file_walked pieces bytes is) ∙ sym (length-append header (framed first_digest pieces))

-- ---- the pieces of a text

pub walked_file : (bytes : List ℕ) → is_file bytes ≡ true → IsFileOf (walk_in bytes).texts bytes
walked_file bytes is =
    let parts = both _ _ is in
    let front = led header bytes parts.0 in
    let walk = walk_is (length bytes) first_digest (drop 16 bytes) in
    let gate = gate_is (walk_in bytes).left parts.1 in
    record {
      pieces_are = walk.pieces_are;
      gate = gate.0;
      rest = gate.1;
      bytes_are = front.0 ∙ ap (λ (xs : List ℕ). header ++ xs) (walk.bytes_are ∙ ap (λ (xs : List ℕ). framed first_digest (walk_in bytes).texts ++ xs) gate.2);
      closed = gate.3;
    }

some_not_none : {A : Type 0} (x : A) → None ≡ Some x → ⊥
some_not_none x e = absurd (true≢false (ap is_none_bool e))
  where
    is_none_bool : {A : Type 0} → Option A → Bool
    is_none_bool None = true
    is_none_bool (Some x) = false

same_some : (x y : List ℕ) → Some x ≡ Some y → x ≡ y
same_some x y e = ap (λ (o : Option (List ℕ)). inside o) e
  where
    inside : Option (List ℕ) → List ℕ
    inside None = []
    inside (Some x) = x

pub texts_have_their_files : TextsHaveTheirFiles
texts_have_their_files bytes text is = here (is_file bytes) refl
  where
    here : (b : Bool) → is_file bytes ≡ b → (pieces : List (List ℕ)) × IsFileOf pieces bytes × (concat pieces ≡ text)
    here true e = ((walk_in bytes).texts, walked_file bytes e, same_some _ _ (sym (text_of bytes e) ∙ is))
    here false e = absurd (some_not_none text (sym (no_text bytes e) ∙ is))

-- ---- behind a closed gate

with_gate : (pieces : List (List ℕ)) (gate : ℕ) (rest : List ℕ) → are_pieces pieces ≡ true → gate ≢ 1 → IsFileOf pieces ((header ++ framed first_digest pieces) ++ gate ∷ rest)
with_gate pieces gate rest are closed = record {
  pieces_are = are;
  gate = gate;
  rest = rest;
  bytes_are = append_assoc header (framed first_digest pieces) (gate ∷ rest);
  closed = closed;
}

pub nothing_behind_counts : NothingBehindCounts
nothing_behind_counts bytes text gate rest is closed =
    let file = texts_have_their_files bytes text is in
    let front = (their_digests file.0 bytes file.1).1 in
    ap (λ (xs : List ℕ). text_in (xs ++ gate ∷ rest)) front
    ∙ files_have_their_texts file.0 ((header ++ framed first_digest file.0) ++ gate ∷ rest) (with_gate file.0 gate rest file.1.pieces_are closed)
    ∙ ap (λ (t : List ℕ). Some t) file.2

-- ---- a piece more

framed_one : (before : List ℕ) (pieces : List (List ℕ)) (piece : List ℕ) → length (framed before (pieces ++ piece ∷ [])) ≡ length (framed before pieces) + 37 + length piece
unfolding framed
framed_one before pieces piece =
    let last : List ℕ = digest_after before pieces in
    let whole = ap length (framed-append before pieces (piece ∷ [])) in
    omega (arith, whole, length-append (framed before pieces) (framed last (piece ∷ [])), length-append (frame last piece) [], length-frame last piece)

digest_one : (before : List ℕ) (pieces : List (List ℕ)) (piece : List ℕ) → digest_after before (pieces ++ piece ∷ []) ≡ chained (digest_after before pieces) piece
unfolding digest_after
digest_one before pieces piece = digest-append before pieces (piece ∷ [])

zero_shut : ◌≢◌ {A = ℕ} 0 1
zero_shut e = absurd (omega (arith, e))

more_are : (pieces : List (List ℕ)) (piece : List ℕ) → are_pieces pieces ≡ true → is_piece piece ≡ true → are_pieces (pieces ++ piece ∷ []) ≡ true
more_are pieces piece are is = list_all-append is_piece pieces (piece ∷ []) ∙ and_from _ _ are (and_from _ _ is refl)

pub with_piece : (pieces : List (List ℕ)) (piece tail : List ℕ) → (header ++ framed first_digest pieces) ++ 1 ∷ ((frame (digest_after first_digest pieces) piece ++ 0 ∷ []) ++ tail) ≡ (header ++ framed first_digest (pieces ++ piece ∷ [])) ++ 0 ∷ tail
unfolding framed
with_piece pieces piece tail =
    let before : List ℕ = digest_after first_digest pieces in
    let new : List ℕ = frame before piece in
    let old : List ℕ = framed first_digest pieces in
    let last : 1 ∷ (new ++ 0 ∷ tail) ≡ framed before (piece ∷ []) ++ 0 ∷ tail = ap (λ (xs : List ℕ). 1 ∷ (xs ++ 0 ∷ tail)) (sym (append-nil new)) in
    ap (λ (xs : List ℕ). (header ++ old) ++ 1 ∷ xs) (append_assoc new (0 ∷ []) tail)
    ∙ ap (λ (xs : List ℕ). (header ++ old) ++ xs) last
    ∙ sym (append_assoc (header ++ old) (framed before (piece ∷ [])) (0 ∷ tail))
    ∙ ap (λ (xs : List ℕ). xs ++ 0 ∷ tail) (append_assoc header old (framed before (piece ∷ [])) ∙ ap (λ (xs : List ℕ). header ++ xs) (sym (framed-append first_digest pieces (piece ∷ []))))

one_more_text : (pieces : List (List ℕ)) (piece : List ℕ) → concat (pieces ++ piece ∷ []) ≡ concat pieces ++ piece
one_more_text pieces piece = concat-append pieces (piece ∷ []) ∙ ap (λ (xs : List ℕ). concat pieces ++ xs) (append-nil piece)

-- what stands there once the piece is put down and its gate is opened
pub piece_added : (bytes text piece tail : List ℕ) → text_in bytes ≡ Some text → is_piece piece ≡ true → (pieces : List (List ℕ)) × IsFileOf (pieces ++ piece ∷ []) (take (end_in bytes) bytes ++ 1 ∷ ((frame (digest_in bytes) piece ++ 0 ∷ []) ++ tail)) × (concat (pieces ++ piece ∷ []) ≡ text ++ piece) × IsFileOf pieces bytes
piece_added bytes text piece tail is some =
    let file = texts_have_their_files bytes text is in
    let words = their_digests file.0 bytes file.1 in
    let there : take (end_in bytes) bytes ++ 1 ∷ ((frame (digest_in bytes) piece ++ 0 ∷ []) ++ tail) ≡ (header ++ framed first_digest (file.0 ++ piece ∷ [])) ++ 0 ∷ tail =
    (λ i. words.1 i ++ 1 ∷ ((frame (words.0 i) piece ++ 0 ∷ []) ++ tail)) ∙ with_piece file.0 piece tail in (
      file.0,
      subst (IsFileOf (file.0 ++ piece ∷ [])) (sym there) (with_gate (file.0 ++ piece ∷ []) 0 tail (more_are file.0 piece file.1.pieces_are some) zero_shut),
      one_more_text file.0 piece ∙ ap (λ (xs : List ℕ). xs ++ piece) file.2,
      file.1,
    )

pub pieces_count_whole : PiecesCountWhole
pieces_count_whole bytes text piece c is some grown = here (nat_eq grown.gate 1) refl
  where
    here : (b : Bool) → nat_eq grown.gate 1 ≡ b → (text_in c ≡ Some text) ⊎ (text_in c ≡ Some (text ++ piece))
    here false e = inl (ap text_in grown.bytes_are ∙ nothing_behind_counts bytes text grown.gate grown.rest is (eqb-false grown.gate 1 e))
    here true e =
        let one : grown.gate ≡ 1 = eqb-true grown.gate 1 e in
        let tail = grown.whole one in
        let added = piece_added bytes text piece tail.0 is some in
        inr (ap text_in (grown.bytes_are ∙ (λ i. take (end_in bytes) bytes ++ one i ∷ tail.1 i)) ∙ files_have_their_texts (added.0 ++ piece ∷ []) _ added.1 ∙ ap (λ (t : List ℕ). Some t) added.2)

pub pieces_are_added : PiecesAreAdded
pieces_are_added bytes text piece c is some grown =
    let added = piece_added bytes text piece grown.0 is some in
    let pieces = added.0 in
    let file = subst (IsFileOf (pieces ++ piece ∷ [])) (sym grown.1) added.1 in
    let words = their_digests pieces bytes added.3 in
    let digests = their_digests (pieces ++ piece ∷ []) c file in
    let old = end_is pieces bytes added.3 in
    let new = end_is (pieces ++ piece ∷ []) c file in
    let longer = framed_one first_digest pieces piece in
    record {
      text_is = files_have_their_texts (pieces ++ piece ∷ []) c file ∙ ap (λ (t : List ℕ). Some t) added.2;
      digest_is = digests.0 ∙ digest_one first_digest pieces piece ∙ ap (λ (d : List ℕ). chained d piece) (sym words.0);
      end_is = omega (arith, old, new, longer, length-append header (framed first_digest pieces), length-append header (framed first_digest (pieces ++ piece ∷ [])));
    }

-- ---- foreign bytes

pub no_header : (bytes : List ℕ) → has_header bytes ≡ false → foreign_in bytes ≡ Some 0
unfolding foreign_in
no_header bytes is = ap (λ (b : Bool). if b then (if is_closed (walk_in bytes).left then None else Some (suc (length (walk_in bytes).texts))) else Some 0) is

pub foreign_at : (bytes : List ℕ) (pieces : List (List ℕ)) (left : List ℕ) → has_header bytes ≡ true → walk_in bytes ≡ record { texts = pieces; left = left } → is_closed left ≡ false → foreign_in bytes ≡ Some (suc (length pieces))
unfolding foreign_in
foreign_at bytes pieces left headed walked open_gate =
    ap (λ (b : Bool). if b then (if is_closed (walk_in bytes).left then None else Some (suc (length (walk_in bytes).texts))) else Some 0) headed
    ∙ ap (λ (w : Walk). if is_closed w.left then None else Some (suc (length w.texts))) walked
    ∙ ap (λ (b : Bool). if b then None else Some (suc (length pieces))) open_gate

-- the closed gate of a file stands at its end
pub closed_at_end : (bytes text : List ℕ) → text_in bytes ≡ Some text → is_closed (drop (end_in bytes) bytes) ≡ true
closed_at_end bytes text is =
    let file = texts_have_their_files bytes text is in
    let gate = file.1.gate in
    let rest = file.1.rest in
    let front : List ℕ = header ++ framed first_digest file.0 in
    let parts : bytes ≡ front ++ gate ∷ rest = file.1.bytes_are ∙ sym (append_assoc header (framed first_digest file.0) (gate ∷ rest)) in
    let there : drop (end_in bytes) bytes ≡ gate ∷ rest = ap (drop (end_in bytes)) parts ∙ drop_at front (gate ∷ rest) (end_in bytes) (sym (end_is file.0 bytes file.1)) in
    ap is_closed there ∙ gate_closed gate rest file.1.closed

pub foreign_cases : (bytes : List ℕ) (number : ℕ) → foreign_in bytes ≡ Some number → (is_file bytes ≡ false) × ((number ≡ 0) × (has_header bytes ≡ false)) ⊎ (is_file bytes ≡ false) × ((number ≡ suc (length (walk_in bytes).texts)) × (has_header bytes ≡ true) × (is_closed (walk_in bytes).left ≡ false))
unfolding foreign_in
foreign_cases bytes number is = by_header (has_header bytes) refl
  where
    told : Bool → Bool → Option ℕ
    told h c = if h then (if c then None else Some (suc (length (walk_in bytes).texts))) else Some 0

    inside : Option ℕ → ℕ
    inside None = 0
    inside (Some x) = x

    some_number : (a b : ℕ) → Some a ≡ Some b → b ≡ a
    some_number a b e = sym (ap inside e)

    none_number : (a : ℕ) → None ≡ Some a → ⊥
    none_number a e = some_not_none a e

    by_gate : has_header bytes ≡ true → (c : Bool) → is_closed (walk_in bytes).left ≡ c → (is_file bytes ≡ false) × ((number ≡ 0) × (has_header bytes ≡ false)) ⊎ (is_file bytes ≡ false) × ((number ≡ suc (length (walk_in bytes).texts)) × (has_header bytes ≡ true) × (is_closed (walk_in bytes).left ≡ false))
    by_gate h true e = absurd (none_number number (sym (λ i. told (h i) (e i)) ∙ is))
    by_gate h false e = inr ((λ i. h i && e i), (some_number _ _ (sym (λ i. told (h i) (e i)) ∙ is), h, e))

    by_header : (h : Bool) → has_header bytes ≡ h → (is_file bytes ≡ false) × ((number ≡ 0) × (has_header bytes ≡ false)) ⊎ (is_file bytes ≡ false) × ((number ≡ suc (length (walk_in bytes).texts)) × (has_header bytes ≡ true) × (is_closed (walk_in bytes).left ≡ false))
    by_header true e = by_gate e (is_closed (walk_in bytes).left) refl
    by_header false e = inl (ap (λ (b : Bool). b && is_closed (walk_in bytes).left) e, (some_number _ _ (sym (ap (λ (b : Bool). told b (is_closed (walk_in bytes).left)) e) ∙ is), e))

never_file : (bytes : List ℕ) → is_file bytes ≡ false → (pieces : List (List ℕ)) → IsFileOf pieces bytes → ⊥
never_file bytes none pieces is = absurd (false≢true (sym none ∙ and_from _ _ (file_headed pieces bytes is) (file_closed pieces bytes is)))

pub foreign_frames_are_first : ForeignFramesAreFirst
foreign_frames_are_first bytes number is = here (foreign_cases bytes number is)
  where
    here : (is_file bytes ≡ false) × ((number ≡ 0) × (has_header bytes ≡ false)) ⊎ (is_file bytes ≡ false) × ((number ≡ suc (length (walk_in bytes).texts)) × (has_header bytes ≡ true) × (is_closed (walk_in bytes).left ≡ false)) → IsForeignAt bytes number
    here (inl h) = record {
      none = no_text bytes h.0;
      no_file = never_file bytes h.0;
      header_is = λ _. h.1.1;
      frames = λ before e. absurd (omega (arith, e, h.1.0));
    }
    here (inr h) =
        let walk = walk_is (length bytes) first_digest (drop 16 bytes) in
        let front = led header bytes h.1.1 in
        record {
          none = no_text bytes h.0;
          no_file = never_file bytes h.0;
          header_is = λ e. absurd (omega (arith, e, h.1.0));
          frames = λ before e. (
            (walk_in bytes).texts,
            (walk_in bytes).left,
            omega (arith, e, h.1.0),
            front.0 ∙ ap (λ (xs : List ℕ). header ++ xs) walk.bytes_are,
            h.1.2,
            walk_ends (length bytes) first_digest (drop 16 bytes) (omega (arith, length-drop 16 bytes)),
          );
        }
