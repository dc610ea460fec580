-- Two lines at one place whose texts begin the same bytes are one line, within the limits of what is read or not.
use Rattle.std.proofs.Common.{◌≡◌, ◌∙◌, ℕ, ◌<◌, ◌≤◌, ◌^◌, true, List, [], ◌∷◌, ◌++◌, length, refl, sym, ap, arith, append_assoc}
use Rattle.std.specs.Prelude.{decimal, ◌≢◌, codes}
use Rattle.std.specs.List.{flat_map}
use Rattle.std.proofs.lemmas.Fmt.{decimal_injective}
use Rattle.std.proofs.lemmas.List.{append_cancel_left}
use Rattle.outside_io.specs.TextLine.{semicolon, line_feed}
use Rattle.cash_amounts.specs.AmountText.{amount_text}
use Rattle.commit_journal.specs.declared.line.Kind.{Kind}
use Rattle.commit_journal.specs.declared.line.Code.{Code}
use Rattle.commit_journal.specs.declared.line.Head.{Head}
use Rattle.commit_journal.specs.declared.line.Move.{Move}
use Rattle.commit_journal.specs.Line.{Line}
use Rattle.commit_journal.specs.Text.{kind_text, code_text, head_text, move_text, line_text}
use Rattle.commit_journal.specs.FieldGrammar.{cut, cents_in, read_code}
use Rattle.commit_journal.specs.LineGrammar.{read_kind}
use Rattle.commit_journal.specs.LineLaws.{TextsTellLines}
use Rattle.commit_journal.specs.TypedLines.{IsTypedMove, AreTypedMoves}
use Rattle.commit_journal.proofs.FieldLemmas.{is_free, some_is, cut-at, number_free, amount_free, cents_in-text}
use Rattle.commit_journal.proofs.LineLemmas.{code_read, head_ended, kind_read, move_ended, no_line_feed, no_semicolon, text-ended}

-- ---- fields

-- a field without its mark, up to the mark
same_field : (mark : ℕ) (a b r s : List ℕ) → is_free mark a ≡ true → is_free mark b ≡ true → a ++ mark ∷ r ≡ b ++ mark ∷ s → (a ≡ b) × (r ≡ s)
same_field mark a b r s free_a free_b e =
    let pair : (a, r) ≡ (b, s) = some_is _ _ (sym (cut-at mark a r free_a) ∙ ap (cut mark) e ∙ cut-at mark b s free_b) in
    (ap (λ (p : List ℕ × List ℕ). p.0) pair, ap (λ (p : List ℕ × List ℕ). p.1) pair)

same_number : (mark m n : ℕ) (r s : List ℕ) → ((b : ℕ) → 48 ≤ b → b ≤ 57 → b ≢ mark) → m < 2 ^ 64 → n < 2 ^ 64 → decimal m ++ mark ∷ r ≡ decimal n ++ mark ∷ s → (m ≡ n) × (r ≡ s)
same_number mark m n r s apart small_m small_n e =
    let same = same_field mark (decimal m) (decimal n) r s (number_free mark m apart small_m) (number_free mark n apart small_n) e in
    (decimal_injective m n small_m small_n same.0, same.1)

same_kind : (k l : Kind) (r s : List ℕ) → kind_text k ++ semicolon ∷ r ≡ kind_text l ++ semicolon ∷ s → (k ≡ l) × (r ≡ s)
same_kind k l r s e =
    let same = same_field semicolon (kind_text k) (kind_text l) r s (kind_read k).1 (kind_read l).1 e in
    (some_is _ _ (sym (kind_read k).0 ∙ ap read_kind same.0 ∙ (kind_read l).0), same.1)

same_code : (c d : Code) (r s : List ℕ) → code_text c ++ semicolon ∷ r ≡ code_text d ++ semicolon ∷ s → (c ≡ d) × (r ≡ s)
same_code c d r s e =
    let same = same_field semicolon (code_text c) (code_text d) r s (code_read c).1 (code_read d).1 e in
    (some_is _ _ (sym (code_read c).0 ∙ ap read_code same.0 ∙ (code_read d).0), same.1)

same_amount : (m n : ℕ) (r s : List ℕ) → m < 2 ^ 64 → n < 2 ^ 64 → amount_text m ++ line_feed ∷ r ≡ amount_text n ++ line_feed ∷ s → (m ≡ n) × (r ≡ s)
same_amount m n r s small_m small_n e =
    let same = same_field line_feed (amount_text m) (amount_text n) r s (amount_free line_feed m no_line_feed (λ f. omega arith) small_m) (amount_free line_feed n no_line_feed (λ f. omega arith) small_n) e in
    (sym (cents_in-text m small_m) ∙ ap cents_in same.0 ∙ cents_in-text n small_n, same.1)

-- ---- heads and moves

same_heads : (place : ℕ) (g h : Head) (c d : ℕ) (r s : List ℕ) → g.msg < 2 ^ 64 → g.entry < 2 ^ 64 → c < 2 ^ 64 → h.msg < 2 ^ 64 → h.entry < 2 ^ 64 → d < 2 ^ 64 →
    head_ended place g c r ≡ head_ended place h d s → (g ≡ h) × (c ≡ d) × (r ≡ s)
same_heads place g h c d r s gm ge gc hm he hd e =
    let placed = append_cancel_left (decimal place) _ _ (append_cancel_left (74 ∷ semicolon ∷ []) _ _ e) in
    let kind = same_kind g.kind h.kind _ _ (append_cancel_left (semicolon ∷ []) _ _ placed) in
    let msg = same_number semicolon g.msg h.msg _ _ no_semicolon gm hm kind.1 in
    let entry = same_number semicolon g.entry h.entry _ _ no_semicolon ge he msg.1 in
    let code = same_code g.code h.code _ _ entry.1 in
    let count = same_number line_feed c d r s no_line_feed gc hd code.1 in
    let head : g ≡ h = λ i. record { kind = kind.0 i; msg = msg.0 i; entry = entry.0 i; code = code.0 i } in
    (head, count.0, count.1)

same_move : (m n : Move) (r s : List ℕ) → IsTypedMove m → IsTypedMove n → move_ended m r ≡ move_ended n s → (m ≡ n) × (r ≡ s)
same_move m n r s tm tn e =
    let debit = same_number semicolon m.debit n.debit _ _ no_semicolon tm.debit tn.debit (append_cancel_left (77 ∷ semicolon ∷ []) _ _ e) in
    let credit = same_number semicolon m.credit n.credit _ _ no_semicolon tm.credit tn.credit debit.1 in
    let amount = same_amount m.amount n.amount r s tm.amount tn.amount credit.1 in
    let move : m ≡ n = λ i. record { debit = debit.0 i; credit = credit.0 i; amount = amount.0 i } in
    (move, amount.1)

-- the text of a move and of those after it
move_first : (m : Move) (ms : List Move) (rest : List ℕ) → flat_map move_text (m ∷ ms) ++ rest ≡ move_ended m (flat_map move_text ms ++ rest)
move_first m ms rest =
    append_assoc (move_text m) (flat_map move_text ms) rest ∙ text-ended (codes "M") (decimal m.debit ∷ decimal m.credit ∷ amount_text m.amount ∷ []) (flat_map move_text ms ++ rest)

same_moves : (ms ns : List Move) (r s : List ℕ) → AreTypedMoves ms → AreTypedMoves ns → length ms ≡ length ns → flat_map move_text ms ++ r ≡ flat_map move_text ns ++ s → (ms ≡ ns) × (r ≡ s)
same_moves [] [] r s tm tn count e = (refl, e)
same_moves [] (n ∷ ns) r s tm tn count e = absurd (omega (arith, count))
same_moves (m ∷ ms) [] r s tm tn count e = absurd (omega (arith, count))
same_moves (m ∷ ms) (n ∷ ns) r s tm tn count e =
    let first = same_move m n _ _ tm.0 tn.0 (sym (move_first m ms r) ∙ e ∙ move_first n ns s) in
    let others = same_moves ms ns r s tm.1 tn.1 (omega (arith, count)) first.1 in
    let all : m ∷ ms ≡ n ∷ ns = λ i. first.0 i ∷ others.0 i in
    (all, others.1)

-- ---- lines

line_first : (place : ℕ) (l : Line) (rest : List ℕ) → line_text place l ++ rest ≡ head_ended place l.head (length l.moves) (flat_map move_text l.moves ++ rest)
unfolding line_text
line_first place l rest =
    append_assoc (head_text place l.head (length l.moves)) (flat_map move_text l.moves) rest
    ∙ text-ended (codes "J") (decimal place ∷ kind_text l.head.kind ∷ decimal l.head.msg ∷ decimal l.head.entry ∷ code_text l.head.code ∷ decimal (length l.moves) ∷ []) (flat_map move_text l.moves ++ rest)

pub texts_tell_lines : TextsTellLines
texts_tell_lines place l m rest others tl tm e =
    let head = same_heads place l.head m.head (length l.moves) (length m.moves) _ _ tl.msg tl.entry tl.count tm.msg tm.entry tm.count (sym (line_first place l rest) ∙ e ∙ line_first place m others) in
    let moves = same_moves l.moves m.moves rest others tl.moves tm.moves head.1 head.2 in
    let line : l ≡ m = λ i. record { head = head.0 i; moves = moves.0 i } in
    (line, moves.1)
