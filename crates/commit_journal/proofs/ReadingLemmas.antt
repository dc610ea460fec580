-- What the code that reads lines comes upon.
use Rattle.std.proofs.Common.{◌≡◌, ℕ, zero, suc, ◌+◌, ◌-◌, ◌<◌, ◌≤◌, ◌^◌, true, false, ◌&&◌, ◌==◌, List, [], ◌∷◌, ◌++◌, length, take, drop, Option, Some, None, refl, sym, ap, ◌∙◌, subst, arith, append_assoc, append-nil, length-drop}
use Rattle.std.specs.Prelude.{decimal, bytes_eq, nat_le, option_map, option_and_then}
use Rattle.std.specs.List.{position}
use Rattle.std.proofs.Math.Seq.{drop-append_seam}
use Rattle.std.proofs.lemmas.Bool.{and_from, le-leb, leb-true}
use Rattle.std.proofs.lemmas.List.{length-append, take_all}
use Rattle.std.proofs.lemmas.List.Quantifiers.{position-Some}
use Rattle.std.proofs.lemmas.Slice.Eq.{bytes_eq-Decides}
use Rattle.cash_amounts.specs.AmountGrammar.{IsAmountText}
use Rattle.cash_amounts.proofs.AmountLemmas.{amount_text_is_amount, amount_is_amount_text}
use Rattle.commit_journal.specs.declared.line.Head.{Head}
use Rattle.commit_journal.specs.declared.line.Move.{Move}
use Rattle.commit_journal.specs.Kept.{MovesInRoom}
use Rattle.commit_journal.specs.Line.{Line}
use Rattle.commit_journal.specs.Text.{line_text}
use Rattle.commit_journal.specs.FieldGrammar.{Read, when, cents_in, around, cut, read_number, read_amount}
use Rattle.commit_journal.specs.LineGrammar.{read_head, read_move, onto, read_moves, read_line}
use Rattle.commit_journal.specs.Kept.{IsOneMore}
use Rattle.commit_journal.proofs.FieldLemmas.{both, then_some, number_read, number_never, amount_read, amount_never, cents_in-text}
use Rattle.commit_journal.proofs.LineLemmas.{only_lines_are_read}

-- what the code writes as a range up to the end
pub rest_is : (xs : List ℕ) (i : ℕ) → take (length xs - i) (drop i xs) ≡ drop i xs
rest_is xs i = take_all (length xs - i) (drop i xs) (simp length-drop (omega arith))

pub mark_inside : (mark : ℕ) (bytes : List ℕ) (i : ℕ) → Some i ≡ position (λ b. b == mark) bytes → i < length bytes
mark_inside mark bytes i e = (position-Some (λ b. b == mark) bytes i 0 (sym e)).0

pub cut_found : (mark : ℕ) (bytes : List ℕ) (i : ℕ) → Some i ≡ position (λ b. b == mark) bytes → Some (take i bytes, take (length bytes - (i + 1)) (drop (i + 1) bytes)) ≡ cut mark bytes
unfolding cut
cut_found mark bytes i e =
    let back : List ℕ → Read (List ℕ) = λ xs. Some (take i bytes, xs) in
    ap back (rest_is bytes (i + 1)) ∙ ap (option_map (around bytes)) e

pub cut_none : (mark : ℕ) (bytes : List ℕ) → None ≡ position (λ b. b == mark) bytes → None ≡ cut mark bytes
unfolding cut
cut_none mark bytes e = ap (option_map (around bytes)) e

-- ---- numbers

-- what reading gives for each number's own text
abbrev pub Parses : List ℕ → Option ℕ → Type 0
Parses bytes o = (n : ℕ) → n < 2 ^ 32 → bytes ≡ decimal n → o ≡ Some n

pub number_none : (low high : ℕ) (bytes : List ℕ) → high < 2 ^ 32 → Parses bytes None → None ≡ read_number low high bytes
number_none low high bytes small h = sym (number_never low high bytes (λ n least most e. absurd (cc (h n (omega arith) e))))

pub number_fits : (low high n : ℕ) (bytes : List ℕ) → n < 2 ^ 32 → (bytes_eq (decimal n) bytes && nat_le low n && nat_le n high) ≡ true → Some n ≡ read_number low high bytes
number_fits low high n bytes small h =
    let a = both _ _ h in
    let b = both _ _ a.0 in
    sym (ap (read_number low high) (sym ((bytes_eq-Decides (decimal n) bytes).0 b.0)) ∙ number_read low high n (leb-true low n b.1) (leb-true n high a.1) (omega arith))

pub number_misfits : (low high n : ℕ) (bytes : List ℕ) → high < 2 ^ 32 → Parses bytes (Some n) → (bytes_eq (decimal n) bytes && nat_le low n && nat_le n high) ≡ false → None ≡ read_number low high bytes
number_misfits low high n bytes small h no_fit = sym (number_never low high bytes (λ m least most e.
    let same : n ≡ m = cc (h m (omega arith) e) in
    let text : decimal n ≡ bytes = ap decimal same ∙ sym e in
    let all : (bytes_eq (decimal n) bytes && nat_le low n && nat_le n high) ≡ true =
    and_from _ _ (and_from _ _ ((bytes_eq-Decides (decimal n) bytes).1 text) (le-leb low n (omega arith))) (le-leb n high (omega arith)) in
    absurd (cc)))

-- ---- amounts

pub amount_none : (bytes : List ℕ) → ((n : ℕ) → IsAmountText bytes n → ⊥) → None ≡ read_amount bytes
amount_none bytes h = sym (amount_never bytes (λ n least most e. h n (subst (λ text. IsAmountText text n) (sym e) (amount_text_is_amount n most))))

pub amount_some : (bytes : List ℕ) (n : ℕ) → IsAmountText bytes n → (n ≡ 0 → ⊥) → Some n ≡ read_amount bytes
amount_some bytes n h some =
    sym (ap read_amount (amount_is_amount_text bytes n h) ∙ amount_read n (omega (arith, some)) h.within)

pub amount_zero : (bytes : List ℕ) (n : ℕ) → IsAmountText bytes n → n ≡ 0 → None ≡ read_amount bytes
amount_zero bytes n h none = sym (amount_never bytes (λ m least most e.
    let same : n ≡ m = sym (cents_in-text n (omega arith)) ∙ ap cents_in (sym (amount_is_amount_text bytes n h) ∙ e) ∙ cents_in-text m (omega arith) in
    absurd (omega arith)))

-- ---- moves

onto_onto : (ms : List Move) (m : Move) (read : Read (List Move)) → onto ms (onto (m ∷ []) read) ≡ onto (ms ++ m ∷ []) read
onto_onto ms m None = refl
onto_onto ms m (Some y) = ap (λ xs. Some (xs, y.1)) (sym (append_assoc ms (m ∷ []) y.0))

-- one more move is put into the list
pub room_for_more : (old new : MovesInRoom) (read : Read Move) (rest : List ℕ) (left start : ℕ) → IsOneMore old new read rest → 0 < left → left ≤ old.room → old.room + length old.moves ≡ start →
    (new.room + length new.moves ≡ start) × (left - 1 ≤ new.room)
room_for_more old new read rest left start h some enough room =
    let r : new.room ≡ old.room - 1 = ap (λ (l : MovesInRoom). l.room) h.put in
    let n : length new.moves ≡ length (old.moves ++ h.move ∷ []) = ap (λ (l : MovesInRoom). length l.moves) h.put in
    let more = length-append old.moves (h.move ∷ []) in
    (omega (arith, r, n, more, room, enough, some), omega (arith, r, enough, some))

-- one more move is read
pub moves_more : (ms : List Move) (left : ℕ) (bytes rest : List ℕ) (m : Move) → 0 < left → Some (m, rest) ≡ read_move bytes → onto (ms ++ m ∷ []) (read_moves (left - 1) rest) ≡ onto ms (read_moves left bytes)
unfolding read_moves
moves_more ms zero bytes rest m some e = absurd (omega arith)
moves_more ms (suc n) bytes rest m some e =
    let here : read_moves (suc n) bytes ≡ onto (m ∷ []) (read_moves n rest) = ap (option_and_then (λ (y : Move × List ℕ). onto (y.0 ∷ []) (read_moves n y.1))) (sym e) in
    let same : suc n - 1 ≡ n = omega arith in
    ap (λ (k : ℕ). onto (ms ++ m ∷ []) (read_moves k rest)) same ∙ sym (ap (onto ms) here ∙ onto_onto ms m (read_moves n rest))

pub moves_fail : (ms : List Move) (left : ℕ) (bytes : List ℕ) → 0 < left → None ≡ read_move bytes → onto ms (read_moves left bytes) ≡ None
unfolding read_moves
moves_fail ms zero bytes some e = absurd (omega arith)
moves_fail ms (suc n) bytes some e = ap (λ o. onto ms (option_and_then (λ (y : Move × List ℕ). onto (y.0 ∷ []) (read_moves n y.1)) o)) (sym e)

pub moves_done : (ms : List Move) (left : ℕ) (bytes : List ℕ) → left ≡ 0 → onto ms (read_moves left bytes) ≡ Some (ms, bytes)
unfolding read_moves
moves_done ms zero bytes e = ap (λ xs. Some (xs, bytes)) (append-nil ms)
moves_done ms (suc n) bytes e = absurd (omega arith)

pub onto_none : (read : Read (List Move)) → onto [] read ≡ read
onto_none None = refl
onto_none (Some y) = refl

-- ---- lines

pub positive : (n : ℕ) → (n ≡ 0 → ⊥) → 0 < n
positive zero some = absurd (some refl)
positive (suc n) some = omega arith

placed : (place : ℕ) → 0 < place → when (nat_le 1 place) place ≡ Some place
placed place some = ap (λ b. when b place) (le-leb 1 place some)

pub line_zero : (most place : ℕ) (bytes : List ℕ) → place ≡ 0 → read_line most place bytes ≡ None
unfolding read_line
line_zero most zero bytes e = refl
line_zero most (suc n) bytes e = absurd (omega arith)

pub line_no_head : (most place : ℕ) (bytes : List ℕ) → 0 < place → read_head most place bytes ≡ None → read_line most place bytes ≡ None
unfolding read_line
line_no_head most place bytes some h = then_some _ _ _ _ (placed place some) (ap (option_and_then _) h)

pub line_no_moves : (most place : ℕ) (bytes : List ℕ) (y : (Head × ℕ) × List ℕ) → 0 < place → read_head most place bytes ≡ Some y → read_moves y.0.1 y.1 ≡ None → read_line most place bytes ≡ None
unfolding read_line
line_no_moves most place bytes y some h g = then_some _ _ _ _ (placed place some) (then_some _ _ _ _ h (ap (option_and_then _) g))

pub line_whole : (most place : ℕ) (bytes : List ℕ) (y : (Head × ℕ) × List ℕ) (z : List Move × List ℕ) → 0 < place → read_head most place bytes ≡ Some y → read_moves y.0.1 y.1 ≡ Some z →
    read_line most place bytes ≡ Some (record { head = y.0.0; moves = z.0 }, z.1)
unfolding read_line
line_whole most place bytes y z some h g = then_some _ _ _ _ (placed place some) (then_some _ _ _ _ h (then_some _ _ _ _ g refl))

-- ---- the length of a text that was read

pub rest_stands : (most place : ℕ) (bytes rest : List ℕ) (l : Line) → place < 2 ^ 32 → read_line most place bytes ≡ Some (l, rest) →
    (length rest ≤ length bytes) × (length bytes - length rest ≡ length (line_text place l)) × (drop (length bytes - length rest) bytes ≡ rest)
rest_stands most place bytes rest l small h =
    let only = only_lines_are_read most place bytes rest l small h in
    let long : length bytes ≡ length (line_text place l) + length rest = ap length only.1 ∙ length-append (line_text place l) rest in
    let n : length bytes - length rest ≡ length (line_text place l) = omega arith in
    (omega arith, n, ap (λ i. drop i bytes) n ∙ ap (drop (length (line_text place l))) only.1 ∙ drop-append_seam (line_text place l) rest)
