-- How long the text of a line of a legal journal can be.
use Rattle.std.proofs.Common.{◌≡◌, ℕ, suc, ◌+◌, ◌*◌, ◌/◌, ◌%◌, ◌<◌, ◌≤◌, ◌^◌, true, List, [], ◌∷◌, ◌++◌, length, arith}
use Rattle.std.specs.Prelude.{decimal, codes}
use Rattle.std.specs.List.{flat_map, join_with_byte}
use Rattle.std.proofs.lemmas.List.{length-append}
use Rattle.std.proofs.lemmas.Fmt.{length-decimal-le}
use Rattle.batch_records.specs.DayRecord.{Day}
use Rattle.batch_records.specs.Sound.{is_sound}
use Rattle.batch_records.specs.Versions.{most_messages}
use Rattle.cash_amounts.specs.AmountText.{amount_text}
use Rattle.cash_amounts.specs.declared.cents.TheConstants.{MAX_CENTS}
use Rattle.cash_amounts.proofs.AmountLemmas.{length-euros}
use Rattle.outside_io.specs.TextLine.{semicolon, text_line}
use Rattle.commit_journal.specs.declared.line.Kind.{Kind}
use Rattle.commit_journal.specs.declared.line.Kind.TheVariants as kinds
use Rattle.commit_journal.specs.declared.line.Code.{Code}
use Rattle.commit_journal.specs.declared.line.Code.TheVariants as line_codes
use Rattle.commit_journal.specs.declared.line.Move.{Move}
use Rattle.commit_journal.specs.Line.{Line, History}
use Rattle.commit_journal.specs.LineLaws.{FitsMove, FitMoves, FitsLine}
use Rattle.commit_journal.specs.Text.{kind_text, code_text, head_text, move_text, line_text}
use Rattle.machine.specs.Legal.{IsLegal}
use Rattle.journal_replay.proofs.Following.{most_small}
use Rattle.journal_replay.proofs.LinesFit.{line_fits}

-- ---- a line of fields

abbrev room_of : List (List ℕ) → ℕ
room_of [] = 1
room_of (field ∷ fields) = length field + 1 + room_of fields

line_room : (fields : List (List ℕ)) → length (text_line fields) ≤ room_of fields
line_room [] = omega arith
line_room (x ∷ []) = omega (arith, length-append x (10 ∷ []))
line_room (x ∷ y ∷ fields) =
    let rest = join_with_byte semicolon (y ∷ fields) in
    let more = line_room (y ∷ fields) in
    omega (arith, more, length-append (x ++ semicolon ∷ rest) (10 ∷ []), length-append x (semicolon ∷ rest), length-append rest (10 ∷ []))

-- ---- the fields of a head

short_kind : (kind : Kind) → length (kind_text kind) ≤ 6
short_kind kinds.In = omega arith
short_kind kinds.Book = omega arith
short_kind kinds.All = omega arith
short_kind kinds.Time = omega arith
short_kind kinds.Expire = omega arith
short_kind kinds.Ask = omega arith
short_kind kinds.Cover = omega arith
short_kind kinds.Refuse = omega arith
short_kind kinds.Sweep = omega arith
short_kind kinds.End = omega arith

short_code : (code : Code) → length (code_text code) ≤ 2
short_code line_codes.Ok = omega arith
short_code line_codes.Du = omega arith
short_code line_codes.Us = omega arith
short_code line_codes.Pr = omega arith
short_code line_codes.Ct = omega arith
short_code line_codes.Sm = omega arith
short_code line_codes.Nz = omega arith
short_code line_codes.En = omega arith
short_code line_codes.Ti = omega arith
short_code line_codes.Cy = omega arith
short_code line_codes.Ac = omega arith
short_code line_codes.Lk = omega arith
short_code line_codes.Nc = omega arith
short_code line_codes.Bt = omega arith
short_code line_codes.Ph = omega arith
short_code line_codes.Np = omega arith
short_code line_codes.Pe = omega arith
short_code line_codes.Ce = omega arith
short_code line_codes.Ed = omega arith
short_code line_codes.Gn = omega arith
short_code line_codes.Gs = omega arith
short_code line_codes.Ge = omega arith

-- ---- lines

short_head : (most place : ℕ) (l : Line) → most < 2 ^ 32 → FitsLine most place l → length (head_text place l.head (length l.moves)) ≤ 64
short_head most place l small fits =
    let room = line_room (codes "J" ∷ decimal place ∷ kind_text l.head.kind ∷ decimal l.head.msg ∷ decimal l.head.entry ∷ code_text l.head.code ∷ decimal (length l.moves) ∷ []) in
    let at = length-decimal-le 10 place (omega arith) (omega (arith, fits.place_to)) (omega (arith, fits.place_to)) in
    let msg = length-decimal-le 10 l.head.msg (omega arith) (omega (arith, small, fits.msg)) (omega (arith, small, fits.msg)) in
    let entry = length-decimal-le 10 l.head.entry (omega arith) (omega (arith, fits.entry)) (omega (arith, fits.entry)) in
    let count = length-decimal-le 10 (length l.moves) (omega arith) (omega (arith, fits.count)) (omega (arith, fits.count)) in
    omega (arith, room, at, short_kind l.head.kind, msg, entry, short_code l.head.code, count)

short_amount : (cents : ℕ) → cents ≤ MAX_CENTS → length (amount_text cents) ≤ 20
short_amount cents few = omega (arith, length-euros cents few, length-append (decimal (cents / 100)) (46 ∷ (48 + cents / 10 % 10) ∷ (48 + cents % 10) ∷ []))

short_move : (m : Move) → FitsMove m → length (move_text m) ≤ 40
short_move m fits =
    let room = line_room (codes "M" ∷ decimal m.debit ∷ decimal m.credit ∷ amount_text m.amount ∷ []) in
    let debit = length-decimal-le 7 m.debit (omega arith) (omega (arith, fits.debit_to)) (omega (arith, fits.debit_to)) in
    let credit = length-decimal-le 7 m.credit (omega arith) (omega (arith, fits.credit_to)) (omega (arith, fits.credit_to)) in
    omega (arith, room, debit, credit, short_amount m.amount fits.amount_to)

short_moves : (moves : List Move) → FitMoves moves → length (flat_map move_text moves) ≤ 40 * length moves
short_moves [] fits = omega arith
short_moves (m ∷ moves) fits = omega (arith, length-append (move_text m) (flat_map move_text moves), short_move m fits.0, short_moves moves fits.1)

-- by its moves
pub line_short : (day : Day) → is_sound day ≡ true → (J : History) (l : Line) → IsLegal day (l ∷ J) → length (line_text (suc (length J)) l) ≤ 64 + 40 * length l.moves
unfolding line_text
line_short day sound J l legal =
    let fits = line_fits day sound J l legal in
    omega (arith, length-append (head_text (suc (length J)) l.head (length l.moves)) (flat_map move_text l.moves), short_head (most_messages day.version) (suc (length J)) l (most_small day) fits, short_moves l.moves fits.moves)

-- and so within the room for one text
pub line_in_room : (day : Day) → is_sound day ≡ true → (J : History) (l : Line) → IsLegal day (l ∷ J) → length (line_text (suc (length J)) l) ≤ 2 ^ 21
line_in_room day sound J l legal = omega (arith, line_short day sound J l legal, (line_fits day sound J l legal).count)
