-- The text of a line is read as that line, and nothing else is read.
use Rattle.std.proofs.Common.{◌≡◌, ℕ, zero, suc, ◌<◌, ◌≤◌, ◌^◌, Bool, true, false, List, [], ◌∷◌, ◌++◌, length, Option, Some, None, refl, sym, ap, ◌∙◌, subst, arith, append_assoc}
use Rattle.std.specs.Prelude.{decimal, bytes_eq, cond, ◌≢◌, codes}
use Rattle.std.specs.List.{find, flat_map, join_with_byte}
use Rattle.std.proofs.lemmas.Bool.{le-leb, leb-true}
use Rattle.std.proofs.lemmas.Slice.Eq.{bytes_eq-Decides}
use Rattle.outside_io.specs.TextLine.{semicolon, line_feed, text_line}
use Rattle.cash_amounts.specs.AmountText.{amount_text}
use Rattle.commit_journal.specs.declared.line.Kind.{Kind}
use Rattle.commit_journal.specs.declared.line.Kind.TheVariants as kinds
use Rattle.commit_journal.specs.declared.line.Code.{Code}
use Rattle.commit_journal.specs.declared.line.Code.TheVariants as line_codes
use Rattle.commit_journal.specs.declared.line.Head.{Head}
use Rattle.commit_journal.specs.declared.line.Move.{Move}
use Rattle.commit_journal.specs.Line.{Line}
use Rattle.commit_journal.specs.Text.{kind_text, code_text, head_text, move_text, line_text}
use Rattle.commit_journal.specs.FieldGrammar.{Read, when, read_field, read_number, read_amount, read_code, all_codes}
use Rattle.commit_journal.specs.LineGrammar.{read_kind, read_front, read_head, read_accounts, read_move, onto, read_moves, read_line, all_kinds, most_entry, most_moves, most_accounts}
use Rattle.commit_journal.specs.LineLaws.{FitsMove, FitMoves, FitsLine, LinesAreRead, OnlyLinesAreRead}
use Rattle.commit_journal.proofs.FieldLemmas.{is_free, some_is, when_some, then_some, then_only, field_read, field_only, word_read, word_only, number_read, number_only, number_free, amount_read, amount_only, amount_free}

-- ---- words

pub kind_read : (kind : Kind) → (read_kind (kind_text kind) ≡ Some kind) × (is_free semicolon (kind_text kind) ≡ true)
unfolding read_kind
kind_read kinds.In = (refl, refl)
kind_read kinds.Book = (refl, refl)
kind_read kinds.All = (refl, refl)
kind_read kinds.Time = (refl, refl)
kind_read kinds.Expire = (refl, refl)
kind_read kinds.Ask = (refl, refl)
kind_read kinds.Cover = (refl, refl)
kind_read kinds.Refuse = (refl, refl)
kind_read kinds.Sweep = (refl, refl)
kind_read kinds.End = (refl, refl)

pub code_read : (code : Code) → (read_code (code_text code) ≡ Some code) × (is_free semicolon (code_text code) ≡ true)
unfolding read_code
code_read line_codes.Ok = (refl, refl)
code_read line_codes.Du = (refl, refl)
code_read line_codes.Us = (refl, refl)
code_read line_codes.Pr = (refl, refl)
code_read line_codes.Ct = (refl, refl)
code_read line_codes.Sm = (refl, refl)
code_read line_codes.Nz = (refl, refl)
code_read line_codes.En = (refl, refl)
code_read line_codes.Ti = (refl, refl)
code_read line_codes.Cy = (refl, refl)
code_read line_codes.Ac = (refl, refl)
code_read line_codes.Lk = (refl, refl)
code_read line_codes.Nc = (refl, refl)
code_read line_codes.Bt = (refl, refl)
code_read line_codes.Ph = (refl, refl)
code_read line_codes.Np = (refl, refl)
code_read line_codes.Pe = (refl, refl)
code_read line_codes.Ce = (refl, refl)
code_read line_codes.Ed = (refl, refl)
code_read line_codes.Gn = (refl, refl)
code_read line_codes.Gs = (refl, refl)
code_read line_codes.Ge = (refl, refl)

-- what is found by its text has that text
found_step : {X : Type 0} (text : X → List ℕ) (y x : X) (bytes : List ℕ) (others : Option X) (b : Bool) → bytes_eq (text y) bytes ≡ b → cond b (Some y) others ≡ Some x →
    (others ≡ Some x → bytes ≡ text x) → bytes ≡ text x
found_step text y x bytes others true e h next = sym ((bytes_eq-Decides (text y) bytes).0 e) ∙ ap text (some_is y x h)
found_step text y x bytes others false e h next = next h

pub found_text : {X : Type 0} (text : X → List ℕ) (xs : List X) (bytes : List ℕ) (x : X) → find (λ y. bytes_eq (text y) bytes) xs ≡ Some x → bytes ≡ text x
found_text text [] bytes x h = absurd (cc)
found_text text (y ∷ xs) bytes x h = found_step text y x bytes (find (λ y. bytes_eq (text y) bytes) xs) (bytes_eq (text y) bytes) refl h (found_text text xs bytes x)

kind_only : (bytes : List ℕ) (kind : Kind) → read_kind bytes ≡ Some kind → bytes ≡ kind_text kind
unfolding read_kind
kind_only bytes kind h = found_text kind_text all_kinds bytes kind h

pub code_only : (bytes : List ℕ) (code : Code) → read_code bytes ≡ Some code → bytes ≡ code_text code
unfolding read_code
code_only bytes code h = found_text code_text all_codes bytes code h

-- ---- lines of text

-- fields, each with its mark after it, and what follows them
abbrev pub ended : List ℕ → List (List ℕ) → List ℕ → List ℕ
ended field [] rest = field ++ line_feed ∷ rest
ended field (next ∷ fields) rest = field ++ semicolon ∷ ended next fields rest

pub text-ended : (field : List ℕ) (fields : List (List ℕ)) (rest : List ℕ) → text_line (field ∷ fields) ++ rest ≡ ended field fields rest
text-ended field [] rest = append_assoc field (line_feed ∷ []) rest
text-ended field (next ∷ fields) rest =
    ap (λ text. text ++ rest) (append_assoc field (semicolon ∷ join_with_byte semicolon (next ∷ fields)) (line_feed ∷ []))
    ∙ append_assoc field (semicolon ∷ (join_with_byte semicolon (next ∷ fields) ++ line_feed ∷ [])) rest
    ∙ ap (λ text. field ++ semicolon ∷ text) (text-ended next fields rest)

abbrev pub head_ended : ℕ → Head → ℕ → List ℕ → List ℕ
head_ended place head count rest = ended (codes "J") (decimal place ∷ kind_text head.kind ∷ decimal head.msg ∷ decimal head.entry ∷ code_text head.code ∷ decimal count ∷ []) rest

abbrev pub move_ended : Move → List ℕ → List ℕ
move_ended m rest = ended (codes "M") (decimal m.debit ∷ decimal m.credit ∷ amount_text m.amount ∷ []) rest

pub no_semicolon : (b : ℕ) → 48 ≤ b → b ≤ 57 → b ≢ semicolon
no_semicolon b low high e = omega arith

pub no_line_feed : (b : ℕ) → 48 ≤ b → b ≤ 57 → b ≢ line_feed
no_line_feed b low high e = omega arith

number_field : (low high n : ℕ) (rest : List ℕ) → low ≤ n → n ≤ high → n < 2 ^ 64 → read_field semicolon (read_number low high) (decimal n ++ semicolon ∷ rest) ≡ Some (n, rest)
number_field low high n rest least most small =
    field_read semicolon (read_number low high) (decimal n) rest n (number_free semicolon n no_semicolon small) (number_read low high n least most small)

last_number : (low high n : ℕ) (rest : List ℕ) → low ≤ n → n ≤ high → n < 2 ^ 64 → read_field line_feed (read_number low high) (decimal n ++ line_feed ∷ rest) ≡ Some (n, rest)
last_number low high n rest least most small =
    field_read line_feed (read_number low high) (decimal n) rest n (number_free line_feed n no_line_feed small) (number_read low high n least most small)

-- ---- heads

front_read : (place : ℕ) (kind : Kind) (rest : List ℕ) → place < 2 ^ 32 →
    read_front place (codes "J" ++ semicolon ∷ (decimal place ++ semicolon ∷ (kind_text kind ++ semicolon ∷ rest))) ≡ Some (kind, rest)
unfolding read_front
front_read place kind rest hp =
    then_some _ _ _ _ (word_read (codes "J") _ refl)
    (then_some _ _ _ _ (number_field place place place _ (omega arith) (omega arith) (omega arith))
    (field_read semicolon read_kind (kind_text kind) rest kind (kind_read kind).1 (kind_read kind).0))

head_read : (most place : ℕ) (head : Head) (count : ℕ) (rest : List ℕ) → most < 2 ^ 32 → place < 2 ^ 32 → head.msg ≤ most → head.entry ≤ most_entry → count ≤ most_moves →
    read_head most place (head_ended place head count rest) ≡ Some ((head, count), rest)
unfolding read_head
head_read most place head count rest small hp hm he hc =
    then_some _ _ _ _ (front_read place head.kind _ hp)
    (then_some _ _ _ _ (number_field 0 most head.msg _ (omega arith) hm (omega arith))
    (then_some _ _ _ _ (number_field 0 most_entry head.entry _ (omega arith) he (omega arith))
    (then_some _ _ _ _ (field_read semicolon read_code (code_text head.code) _ head.code (code_read head.code).1 (code_read head.code).0)
    (then_some _ _ _ _ (last_number 0 most_moves count rest (omega arith) hc (omega arith)) refl))))

-- ---- moves

accounts_read : (debit credit : ℕ) (rest : List ℕ) → 1 ≤ debit → debit ≤ most_accounts → 1 ≤ credit → credit ≤ most_accounts →
    read_accounts (codes "M" ++ semicolon ∷ (decimal debit ++ semicolon ∷ (decimal credit ++ semicolon ∷ rest))) ≡ Some ((debit, credit), rest)
unfolding read_accounts
accounts_read debit credit rest d1 d2 c1 c2 =
    then_some _ _ _ _ (word_read (codes "M") _ refl)
    (then_some _ _ _ _ (number_field 1 most_accounts debit _ d1 d2 (omega arith))
    (then_some _ _ _ _ (number_field 1 most_accounts credit _ c1 c2 (omega arith)) refl))

move_read : (m : Move) (rest : List ℕ) → FitsMove m → read_move (move_ended m rest) ≡ Some (m, rest)
unfolding read_move
move_read m rest h =
    then_some _ _ _ _ (accounts_read m.debit m.credit _ h.debit_from h.debit_to h.credit_from h.credit_to)
    (then_some _ _ _ _ (field_read line_feed read_amount (amount_text m.amount) rest m.amount (amount_free line_feed m.amount no_line_feed (λ e. omega arith) (omega (arith, h.amount_to))) (amount_read m.amount h.amount_from h.amount_to)) refl)

moves_read : (moves : List Move) (rest : List ℕ) → FitMoves moves → read_moves (length moves) (flat_map move_text moves ++ rest) ≡ Some (moves, rest)
unfolding read_moves
moves_read [] rest h = refl
moves_read (m ∷ moves) rest h =
    ap (read_moves (suc (length moves))) (append_assoc (move_text m) (flat_map move_text moves) rest ∙ text-ended (codes "M") (decimal m.debit ∷ decimal m.credit ∷ amount_text m.amount ∷ []) (flat_map move_text moves ++ rest))
    ∙ then_some _ _ _ _ (move_read m (flat_map move_text moves ++ rest) h.0)
    (ap (onto (m ∷ [])) (moves_read moves rest h.1))

-- ---- lines

pub lines_are_read : LinesAreRead
unfolding read_line line_text
lines_are_read most place l rest small h =
    let moves = flat_map move_text l.moves ++ rest in
    ap (read_line most place) (append_assoc (head_text place l.head (length l.moves)) (flat_map move_text l.moves) rest
    ∙ text-ended (codes "J") (decimal place ∷ kind_text l.head.kind ∷ decimal l.head.msg ∷ decimal l.head.entry ∷ code_text l.head.code ∷ decimal (length l.moves) ∷ []) moves)
    ∙ then_some _ _ _ _ (ap (λ b. when b place) (le-leb 1 place h.place_from))
    (then_some _ _ _ _ (head_read most place l.head (length l.moves) moves small h.place_to h.msg h.entry h.count)
    (then_some _ _ _ _ (moves_read l.moves rest h.moves) refl))

-- ---- only these

-- a number was written, and what follows it was read
number_was : (mark low high : ℕ) (bytes : List ℕ) (y : ℕ × List ℕ) → read_field mark (read_number low high) bytes ≡ Some y → (bytes ≡ decimal y.0 ++ mark ∷ y.1) × (low ≤ y.0) × (y.0 ≤ high)
number_was mark low high bytes y h =
    let f = field_only mark (read_number low high) bytes y h in
    let n = number_only low high y.0 f.0 f.1 in
    (f.2 ∙ ap (λ text. text ++ mark ∷ y.1) n.0, n.1, n.2)

front_only : (place : ℕ) (bytes : List ℕ) (y : Kind × List ℕ) → read_front place bytes ≡ Some y → bytes ≡ codes "J" ++ semicolon ∷ (decimal place ++ semicolon ∷ (kind_text y.0 ++ semicolon ∷ y.1))
unfolding read_front
front_only place bytes y h =
    let word = then_only _ _ y h in
    let at = then_only _ _ y word.2 in
    let kind = field_only semicolon read_kind at.0.1 y at.2 in
    let n = number_was semicolon place place word.0 at.0 at.1 in
    let same : at.0.0 ≡ place = omega (arith, n.1, n.2) in
    word_only (codes "J") bytes word.0 word.1
    ∙ ap (λ xs. codes "J" ++ semicolon ∷ xs) (n.0
    ∙ ap (λ i. decimal i ++ semicolon ∷ at.0.1) same
    ∙ ap (λ xs. decimal place ++ semicolon ∷ xs) (kind.2 ∙ ap (λ text. text ++ semicolon ∷ y.1) (kind_only kind.0 y.0 kind.1)))

-- what a head that was read keeps to
record HeadWas (most place : ℕ) (bytes : List ℕ) (head : Head) (count : ℕ) (rest : List ℕ) : Type 0 where
  text : bytes ≡ head_ended place head count rest
  msg : head.msg ≤ most
  entry : head.entry ≤ most_entry
  few : count ≤ most_moves

head_only : (most place : ℕ) (bytes rest : List ℕ) (head : Head) (count : ℕ) → read_head most place bytes ≡ Some ((head, count), rest) → HeadWas most place bytes head count rest
unfolding read_head
head_only most place bytes rest head count h =
    let kind = then_only _ _ ((head, count), rest) h in
    let msg = then_only _ _ ((head, count), rest) kind.2 in
    let entry = then_only _ _ ((head, count), rest) msg.2 in
    let code = then_only _ _ ((head, count), rest) entry.2 in
    let number = then_only _ _ ((head, count), rest) code.2 in
    let front = front_only place bytes kind.0 kind.1 in
    let msg_was = number_was semicolon 0 most kind.0.1 msg.0 msg.1 in
    let entry_was = number_was semicolon 0 most_entry msg.0.1 entry.0 entry.1 in
    let code_was = field_only semicolon read_code entry.0.1 code.0 code.1 in
    let count_was = number_was line_feed 0 most_moves code.0.1 number.0 number.1 in
    let text : bytes ≡ head_ended place (record { kind = kind.0.0; msg = msg.0.0; entry = entry.0.0; code = code.0.0 }) number.0.0 number.0.1 =
    front
    ∙ ap (λ xs. codes "J" ++ semicolon ∷ (decimal place ++ semicolon ∷ (kind_text kind.0.0 ++ semicolon ∷ xs))) (msg_was.0
    ∙ ap (λ xs. decimal msg.0.0 ++ semicolon ∷ xs) (entry_was.0
    ∙ ap (λ xs. decimal entry.0.0 ++ semicolon ∷ xs) (code_was.2
    ∙ ap (λ word. word ++ semicolon ∷ code.0.1) (code_only code_was.0 code.0.0 code_was.1)
    ∙ ap (λ xs. code_text code.0.0 ++ semicolon ∷ xs) count_was.0))) in
    let made : HeadWas most place bytes (record { kind = kind.0.0; msg = msg.0.0; entry = entry.0.0; code = code.0.0 }) number.0.0 number.0.1 =
    record { text = text; msg = msg_was.2; entry = entry_was.2; few = count_was.2 } in
    subst (λ (y : (Head × ℕ) × List ℕ). HeadWas most place bytes y.0.0 y.0.1 y.1) (some_is _ _ number.2) made

pub few_moves : (most place : ℕ) (bytes : List ℕ) (y : (Head × ℕ) × List ℕ) → read_head most place bytes ≡ Some y → y.0.1 ≤ most_moves
few_moves most place bytes y h = (head_only most place bytes y.1 y.0.0 y.0.1 h).few

record MoveWas (bytes : List ℕ) (m : Move) (rest : List ℕ) : Type 0 where
  text : bytes ≡ move_text m ++ rest
  fits : FitsMove m

record AccountsWere (bytes : List ℕ) (y : (ℕ × ℕ) × List ℕ) : Type 0 where
  text : bytes ≡ codes "M" ++ semicolon ∷ (decimal y.0.0 ++ semicolon ∷ (decimal y.0.1 ++ semicolon ∷ y.1))
  debit_from : 1 ≤ y.0.0
  debit_to : y.0.0 ≤ most_accounts
  credit_from : 1 ≤ y.0.1
  credit_to : y.0.1 ≤ most_accounts

accounts_only : (bytes : List ℕ) (y : (ℕ × ℕ) × List ℕ) → read_accounts bytes ≡ Some y → AccountsWere bytes y
unfolding read_accounts
accounts_only bytes y h =
    let word = then_only _ _ y h in
    let debit = then_only _ _ y word.2 in
    let credit = then_only _ _ y debit.2 in
    let debit_was = number_was semicolon 1 most_accounts word.0 debit.0 debit.1 in
    let credit_was = number_was semicolon 1 most_accounts debit.0.1 credit.0 credit.1 in
    let made : AccountsWere bytes ((debit.0.0, credit.0.0), credit.0.1) = record {
      text = word_only (codes "M") bytes word.0 word.1
          ∙ ap (λ (xs : List ℕ). codes "M" ++ semicolon ∷ xs) (debit_was.0 ∙ ap (λ (xs : List ℕ). decimal debit.0.0 ++ semicolon ∷ xs) credit_was.0);
      debit_from = debit_was.1;
      debit_to = debit_was.2;
      credit_from = credit_was.1;
      credit_to = credit_was.2;
    } in
    subst (AccountsWere bytes) (some_is _ _ credit.2) made

move_only : (bytes : List ℕ) (y : Move × List ℕ) → read_move bytes ≡ Some y → MoveWas bytes y.0 y.1
unfolding read_move
move_only bytes y h =
    let accounts = then_only _ _ y h in
    let amount = then_only _ _ y accounts.2 in
    let were = accounts_only bytes accounts.0 accounts.1 in
    let field = field_only line_feed read_amount accounts.0.1 amount.0 amount.1 in
    let amount_was = amount_only amount.0.0 field.0 field.1 in
    let m : Move = record { debit = accounts.0.0.0; credit = accounts.0.0.1; amount = amount.0.0 } in
    let last : accounts.0.1 ≡ amount_text amount.0.0 ++ line_feed ∷ amount.0.1 = field.2 ∙ ap (λ (text : List ℕ). text ++ line_feed ∷ amount.0.1) amount_was.0 in
    let text : bytes ≡ move_ended m amount.0.1 =
    were.text ∙ ap (λ (xs : List ℕ). codes "M" ++ semicolon ∷ (decimal accounts.0.0.0 ++ semicolon ∷ (decimal accounts.0.0.1 ++ semicolon ∷ xs))) last in
    let made : MoveWas bytes m amount.0.1 = record {
      text = text ∙ sym (text-ended (codes "M") (decimal m.debit ∷ decimal m.credit ∷ amount_text m.amount ∷ []) amount.0.1);
      fits = record { debit_from = were.debit_from; debit_to = were.debit_to; credit_from = were.credit_from; credit_to = were.credit_to; amount_from = amount_was.1; amount_to = amount_was.2 };
    } in
    subst (λ (y : Move × List ℕ). MoveWas bytes y.0 y.1) (some_is _ _ amount.2) made

record MovesWere (count : ℕ) (bytes : List ℕ) (moves : List Move) (rest : List ℕ) : Type 0 where
  text : bytes ≡ flat_map move_text moves ++ rest
  counted : length moves ≡ count
  fit : FitMoves moves

onto_only : (m : Move) (read : Read (List Move)) (y : List Move × List ℕ) → onto (m ∷ []) read ≡ Some y → (z : List Move × List ℕ) × (read ≡ Some z) × (((m ∷ z.0), z.1) ≡ y)
onto_only m None y h = absurd (cc)
onto_only m (Some z) y h = (z, refl, some_is _ _ h)

moves_only : (count : ℕ) (bytes : List ℕ) (y : List Move × List ℕ) → read_moves count bytes ≡ Some y → MovesWere count bytes y.0 y.1
unfolding read_moves
moves_only zero bytes y h = subst (λ (y : List Move × List ℕ). MovesWere zero bytes y.0 y.1) (some_is _ _ h) (record { text = refl; counted = refl; fit = tt })
moves_only (suc n) bytes y h =
    let first = then_only _ _ y h in
    let others = onto_only first.0.0 (read_moves n first.0.1) y first.2 in
    let m = move_only bytes first.0 first.1 in
    let later = moves_only n first.0.1 others.0 others.1 in
    let moves = first.0.0 ∷ others.0.0 in
    let made : MovesWere (suc n) bytes moves others.0.1 = record {
      text = m.text ∙ ap (λ xs. move_text first.0.0 ++ xs) later.text ∙ sym (append_assoc (move_text first.0.0) (flat_map move_text others.0.0) others.0.1);
      counted = ap suc later.counted;
      fit = (m.fits, later.fit);
    } in
    subst (λ (y : List Move × List ℕ). MovesWere (suc n) bytes y.0 y.1) others.2 made

pub only_lines_are_read : OnlyLinesAreRead
unfolding read_line line_text
only_lines_are_read most place bytes rest l small h =
    let at = then_only _ _ (l, rest) h in
    let head = then_only _ _ (l, rest) at.2 in
    let moves = then_only _ _ (l, rest) head.2 in
    let w = when_some _ _ _ at.1 in
    let front = head_only most at.0 bytes head.0.1 head.0.0.0 head.0.0.1 head.1 in
    let others = moves_only head.0.0.1 head.0.1 moves.0 moves.1 in
    let line : Line = record { head = head.0.0.0; moves = moves.0.0 } in
    let fields = decimal place ∷ kind_text line.head.kind ∷ decimal line.head.msg ∷ decimal line.head.entry ∷ code_text line.head.code ∷ decimal (length line.moves) ∷ [] in
    let text : bytes ≡ line_text place line ++ moves.0.1 =
    front.text
    ∙ ap (λ i. head_ended i line.head head.0.0.1 head.0.1) (sym w.1)
    ∙ ap (λ n. head_ended place line.head n head.0.1) (sym others.counted)
    ∙ ap (λ xs. head_ended place line.head (length line.moves) xs) others.text
    ∙ sym (text-ended (codes "J") fields (flat_map move_text line.moves ++ moves.0.1))
    ∙ sym (append_assoc (head_text place line.head (length line.moves)) (flat_map move_text line.moves) moves.0.1) in
    let fits : FitsLine most place line = record {
      place_from = leb-true 1 place w.0;
      place_to = small;
      msg = front.msg;
      entry = front.entry;
      count = omega (arith, others.counted, front.few);
      moves = others.fit;
    } in
    subst (λ (y : Line × List ℕ). FitsLine most place y.0 × (bytes ≡ line_text place y.0 ++ y.1)) (some_is _ _ moves.2) (fits, text)
