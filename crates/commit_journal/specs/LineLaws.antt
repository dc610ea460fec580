-- Reading and writing lines fit each other, as statements.
use Rattle.std.specs.Prelude.{ℕ, ◌≡◌, ◌<◌, ◌≤◌, ◌^◌, List, [], ◌∷◌, ◌++◌, length, Some}
use Rattle.cash_amounts.specs.declared.cents.TheConstants.{MAX_CENTS}
use Rattle.commit_journal.specs.declared.line.Move.{Move}
use Rattle.commit_journal.specs.Line.{Line}
use Rattle.commit_journal.specs.Text.{line_text}
use Rattle.commit_journal.specs.LineGrammar.{most_entry, most_moves, most_accounts, read_line}
use Rattle.commit_journal.specs.TypedLines.{IsTypedLine}

-- what the text of a move can say
pub record FitsMove (m : Move) : Type 0 where
  pub debit_from : 1 ≤ m.debit
  pub debit_to : m.debit ≤ most_accounts
  pub credit_from : 1 ≤ m.credit
  pub credit_to : m.credit ≤ most_accounts
  pub amount_from : 1 ≤ m.amount
  pub amount_to : m.amount ≤ MAX_CENTS

abbrev pub FitMoves : List Move → Type 0
FitMoves [] = Unit {0}
FitMoves (m ∷ moves) = FitsMove m × FitMoves moves

-- what the text of a line at this place can say, where this is the last message
pub record FitsLine (most place : ℕ) (l : Line) : Type 0 where
  pub place_from : 1 ≤ place
  pub place_to : place < 2 ^ 32
  pub msg : l.head.msg ≤ most
  pub entry : l.head.entry ≤ most_entry
  pub count : length l.moves ≤ most_moves
  pub moves : FitMoves l.moves

-- the text of a line is read as that line, whatever follows it
abbrev pub LinesAreRead : Type 0
LinesAreRead = (most place : ℕ) (l : Line) (rest : List ℕ) → most < 2 ^ 32 → FitsLine most place l → read_line most place (line_text place l ++ rest) ≡ Some (l, rest)

-- only the texts of lines are read
abbrev pub OnlyLinesAreRead : Type 0
OnlyLinesAreRead = (most place : ℕ) (bytes rest : List ℕ) (l : Line) → place < 2 ^ 32 → read_line most place bytes ≡ Some (l, rest) →
    FitsLine most place l × (bytes ≡ line_text place l ++ rest)

-- ---- any lines that the types can hold

-- where the texts of two lines at one place begin the same bytes, the lines are the same, and so is what follows them
abbrev pub TextsTellLines : Type 0
TextsTellLines = (place : ℕ) (l m : Line) (rest others : List ℕ) → IsTypedLine l → IsTypedLine m → line_text place l ++ rest ≡ line_text place m ++ others →
    (l ≡ m) × (rest ≡ others)
