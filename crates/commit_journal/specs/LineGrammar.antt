-- Which bytes begin with the text of a line, and what is read from them.
use Rattle.std.specs.Prelude.{ℕ, zero, suc, nat_le, List, [], ◌∷◌, ◌++◌, Option, Some, option_map, bytes_eq, codes}
use Rattle.std.specs.List.{find}
use Rattle.cash_amounts.specs.declared.limits.TheConstants.{MAX_ACCOUNTS}
use Rattle.period_calendar.specs.declared.time.TheConstants.{MIDNIGHT}
use Rattle.outside_io.specs.TextLine.{semicolon, line_feed}
use Rattle.commit_journal.specs.declared.line.Kind.{Kind}
use Rattle.commit_journal.specs.declared.line.Kind.TheVariants as kinds
use Rattle.commit_journal.specs.declared.line.Head.{Head}
use Rattle.commit_journal.specs.declared.line.Move.{Move}
use Rattle.commit_journal.specs.declared.move_list.TheConstants.{MAX_MOVES}
use Rattle.commit_journal.specs.Line.{Line}
use Rattle.commit_journal.specs.Text.{kind_text}
use Rattle.commit_journal.specs.FieldGrammar.{◌>>=◌, when, Read, read_field, read_number, read_amount, read_code, after_word}

abbrev pub all_kinds : List Kind
all_kinds =
    kinds.In ∷ kinds.Book ∷ kinds.All ∷ kinds.Time ∷ kinds.Expire ∷ kinds.Ask ∷ kinds.Cover ∷ kinds.Refuse ∷ kinds.Sweep ∷ kinds.End ∷ []

-- the kind whose word this is
unfoldable pub read_kind : List ℕ → Option Kind
read_kind bytes = find (λ kind. bytes_eq (kind_text kind) bytes) all_kinds

-- ---- the limits of what a line can say: a line of time has its seconds for an entry. How many messages there can be is told by who
-- reads, as it is the version of the day that has it

abbrev pub most_entry : ℕ
most_entry = MIDNIGHT

abbrev pub most_moves : ℕ
most_moves = MAX_MOVES

abbrev pub most_accounts : ℕ
most_accounts = MAX_ACCOUNTS

-- ---- a head, with the number of its moves

-- up to its kind
unfoldable pub read_front : ℕ → List ℕ → Read Kind
read_front place bytes = do
  rest ← after_word (codes "J") bytes
  its_place ← read_field semicolon (read_number place place) rest
  read_field semicolon read_kind its_place.1

-- with no message above this number
unfoldable pub read_head : ℕ → ℕ → List ℕ → Read (Head × ℕ)
read_head most place bytes = do
  kind ← read_front place bytes
  msg ← read_field semicolon (read_number 0 most) kind.1
  entry ← read_field semicolon (read_number 0 most_entry) msg.1
  code ← read_field semicolon read_code entry.1
  count ← read_field line_feed (read_number 0 most_moves) code.1
  Some ((record { kind = kind.0; msg = msg.0; entry = entry.0; code = code.0 }, count.0), count.1)

-- ---- moves

-- the accounts that the money leaves and comes to
unfoldable pub read_accounts : List ℕ → Read (ℕ × ℕ)
read_accounts bytes = do
  rest ← after_word (codes "M") bytes
  debit ← read_field semicolon (read_number 1 most_accounts) rest
  credit ← read_field semicolon (read_number 1 most_accounts) debit.1
  Some ((debit.0, credit.0), credit.1)

unfoldable pub read_move : List ℕ → Read Move
read_move bytes = do
  accounts ← read_accounts bytes
  amount ← read_field line_feed read_amount accounts.1
  Some (record { debit = accounts.0.0; credit = accounts.0.1; amount = amount.0 }, amount.1)

-- these moves before those that were read
abbrev pub onto : List Move → Read (List Move) → Read (List Move)
onto moves read = option_map (λ others. (moves ++ others.0, others.1)) read

unfoldable pub read_moves : ℕ → List ℕ → Read (List Move)
read_moves zero bytes = Some ([], bytes)
read_moves (suc n) bytes = do
  move ← read_move bytes
  onto (move.0 ∷ []) (read_moves n move.1)

-- ---- a line at this place, from 1, of a message no higher than this one, and the bytes after it

unfoldable pub read_line : ℕ → ℕ → List ℕ → Read Line
read_line most place bytes = do
  its_place ← when (nat_le 1 place) place
  head ← read_head most its_place bytes
  moves ← read_moves head.0.1 head.1
  Some (record { head = head.0.0; moves = moves.0 }, moves.1)
