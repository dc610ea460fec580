-- Which lines, without their ends, are texts of status messages, and what is read from them.
use Rattle.std.specs.Prelude.{ℕ, Bool, true, false, if◌then◌else◌, List, [], ◌∷◌, Option, Some, None, bytes_eq, codes}
use Rattle.std.specs.List.{find}
use Rattle.cash_amounts.specs.declared.limits.TheConstants.{MAX_MESSAGES}
use Rattle.cash_amounts.specs.Names.{is_name, is_id}
use Rattle.outside_io.specs.TextLine.{semicolon}
use Rattle.batch_records.specs.Versions.{is_third}
use Rattle.commit_journal.specs.FieldGrammar.{◌>>=◌, when, Read, cut, read_field, read_number, read_amount, read_code, after_word}
use Rattle.status_messages.specs.declared.status.TurnCode.{TurnCode}
use Rattle.status_messages.specs.declared.status.TurnCode.TheVariants as turn_codes
use Rattle.status_messages.specs.declared.status.Status.{Status}
use Rattle.status_messages.specs.declared.status.Status.TheVariants as status
use Rattle.status_messages.specs.StatusTexts.{turn_text, side_text}

-- the greatest place and entry; of which message a status can be at most, is told to who reads it
abbrev pub most_count : ℕ
most_count = 4294967295

-- of which message a status of a day of this version can be at most: in version 3 the last that such a day can have, and in the
-- versions before it any number
abbrev pub most_told : ℕ → ℕ
most_told version = if is_third version then MAX_MESSAGES else most_count

-- ---- words

abbrev pub all_turns : List TurnCode
all_turns = turn_codes.Acpt ∷ turn_codes.Rjct ∷ turn_codes.Dupl ∷ turn_codes.Info ∷ turn_codes.Setl ∷ turn_codes.Askg ∷ turn_codes.Fail ∷ turn_codes.Rvkd ∷ []

-- the turn whose word this is
unfoldable pub read_turn : List ℕ → Option TurnCode
read_turn bytes = find (λ turn. bytes_eq (turn_text turn) bytes) all_turns

abbrev pub all_sides : List Bool
all_sides = true ∷ false ∷ []

-- the side whose word this is: whether the money left the account
unfoldable pub read_side : List ℕ → Option Bool
read_side bytes = find (λ debit. bytes_eq (side_text debit) bytes) all_sides

-- ---- names

abbrev pub read_name : List ℕ → Option (List ℕ)
read_name bytes = when (is_name bytes) bytes

abbrev pub read_id : List ℕ → Option (List ℕ)
read_id bytes = when (is_id bytes) bytes

-- ---- what all status messages begin with: the place, and who is told

unfoldable pub read_front : List ℕ → Read (ℕ × List ℕ)
read_front bytes = do
  rest ← after_word (codes "S") bytes
  place ← read_field semicolon (read_number 1 most_count) rest
  to ← read_field semicolon read_name place.1
  Some ((place.0, to.0), to.1)

-- ---- a turn, from the end of its word on

-- the message's number, at most this, its sender and its identification
unfoldable pub read_about : ℕ → List ℕ → Read (ℕ × List ℕ × List ℕ)
read_about most bytes = do
  msg ← read_field semicolon (read_number 1 most) bytes
  from ← read_field semicolon read_name msg.1
  id ← read_field semicolon read_id from.1
  Some ((msg.0, from.0, id.0), id.1)

unfoldable pub read_taken : ℕ → ℕ → List ℕ → TurnCode → List ℕ → Option Status
read_taken most place to turn bytes = do
  about ← read_about most bytes
  entry ← read_field semicolon (read_number 0 most_count) about.1
  reason ← read_code entry.1
  Some (status.Turn place to turn about.0.0 about.0.1 about.0.2 entry.0 reason)

-- ---- a move, from the end of the word for its side on

unfoldable pub read_moved : ℕ → List ℕ → Bool → List ℕ → Option Status
read_moved place to debit bytes = do
  account ← read_field semicolon read_name bytes
  amount ← read_amount account.1
  Some (status.Moved place to debit account.0 amount)

-- ---- a status message

-- after a word: a turn where it is one's, else a move where it is the word for a side
abbrev pub by_word : ℕ → ℕ → List ℕ → List ℕ → List ℕ → Option TurnCode → Option Status
by_word most place to word bytes (Some turn) = read_taken most place to turn bytes
by_word most place to word bytes None = do
  debit ← read_side word
  read_moved place to debit bytes

-- of no message above `most`
unfoldable pub read_status : ℕ → List ℕ → Option Status
read_status most bytes = do
  front ← read_front bytes
  word ← cut semicolon front.1
  by_word most front.0.0 front.0.1 word.0 word.1 (read_turn word.0)
