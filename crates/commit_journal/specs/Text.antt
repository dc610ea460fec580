-- The texts of lines, and of a journal.
use Rattle.std.specs.Prelude.{ℕ, suc, List, [], ◌∷◌, ◌++◌, length, decimal, codes}
use Rattle.std.specs.List.{flat_map}
use Rattle.cash_amounts.specs.AmountText.{amount_text}
use Rattle.outside_io.specs.TextLine.{text_line}
use Rattle.commit_journal.specs.declared.line.Kind.{Kind}
use Rattle.commit_journal.specs.declared.line.Kind.TheVariants as kinds
use Rattle.commit_journal.specs.declared.line.Code.{Code}
use Rattle.commit_journal.specs.declared.line.Code.TheVariants as line_codes
use Rattle.commit_journal.specs.declared.line.Head.{Head}
use Rattle.commit_journal.specs.declared.line.Move.{Move}
use Rattle.commit_journal.specs.Line.{Line, History}

abbrev pub kind_text : Kind → List ℕ
kind_text kinds.In = codes "IN"
kind_text kinds.Book = codes "BOOK"
kind_text kinds.All = codes "ALL"
kind_text kinds.Time = codes "TIME"
kind_text kinds.Expire = codes "EXPIRE"
kind_text kinds.Ask = codes "ASK"
kind_text kinds.Cover = codes "COVER"
kind_text kinds.Refuse = codes "REFUSE"
kind_text kinds.Sweep = codes "SWEEP"
kind_text kinds.End = codes "END"

abbrev pub code_text : Code → List ℕ
code_text line_codes.Ok = codes "OK"
code_text line_codes.Du = codes "DU"
code_text line_codes.Us = codes "US"
code_text line_codes.Pr = codes "PR"
code_text line_codes.Ct = codes "CT"
code_text line_codes.Sm = codes "SM"
code_text line_codes.Nz = codes "NZ"
code_text line_codes.En = codes "EN"
code_text line_codes.Ti = codes "TI"
code_text line_codes.Cy = codes "CY"
code_text line_codes.Ac = codes "AC"
code_text line_codes.Lk = codes "LK"
code_text line_codes.Nc = codes "NC"
code_text line_codes.Bt = codes "BT"
code_text line_codes.Ph = codes "PH"
code_text line_codes.Np = codes "NP"
code_text line_codes.Pe = codes "PE"
code_text line_codes.Ce = codes "CE"
code_text line_codes.Ed = codes "ED"
code_text line_codes.Gn = codes "GN"
code_text line_codes.Gs = codes "GS"
code_text line_codes.Ge = codes "GE"

-- the head of the line at this place, with the number of its moves
abbrev pub head_text : ℕ → Head → ℕ → List ℕ
head_text place head count = text_line (codes "J" ∷ decimal place ∷ kind_text head.kind ∷ decimal head.msg ∷ decimal head.entry ∷ code_text head.code ∷ decimal count ∷ [])

abbrev pub move_text : Move → List ℕ
move_text m = text_line (codes "M" ∷ decimal m.debit ∷ decimal m.credit ∷ amount_text m.amount ∷ [])

-- the line at this place: its head, and its moves in order
unfoldable pub line_text : ℕ → Line → List ℕ
line_text place l = head_text place l.head (length l.moves) ++ flat_map move_text l.moves

-- The lines in the order in which they were made: the newest stands last, and its place is their number.
unfoldable pub journal_text : History → List ℕ
journal_text [] = []
journal_text (l ∷ J) = journal_text J ++ line_text (suc (length J)) l
