-- Reading and writing status messages fit each other, as statements.
use Rattle.std.specs.Prelude.{◌≡◌, ℕ, ◌≤◌, List, [], ◌∷◌, ◌++◌, Some, IsTrue}
use Rattle.cash_amounts.specs.Names.{is_name, is_id}
use Rattle.cash_amounts.specs.declared.cents.TheConstants.{MAX_CENTS}
use Rattle.outside_io.specs.TextLine.{line_feed}
use Rattle.status_messages.specs.declared.status.Status.{Status}
use Rattle.status_messages.specs.declared.status.Status.TheVariants as status
use Rattle.status_messages.specs.StatusTexts.{status_text}
use Rattle.status_messages.specs.StatusGrammar.{most_count, read_status}

-- what the text of a turn can say, of no message above `most`
pub record FitsTurn (most place : ℕ) (to : List ℕ) (msg : ℕ) (from id : List ℕ) (entry : ℕ) : Type 0 where
  pub place_from : 1 ≤ place
  pub place_to : place ≤ most_count
  pub to_named : IsTrue (is_name to)
  pub msg_from : 1 ≤ msg
  pub msg_to : msg ≤ most
  pub from_named : IsTrue (is_name from)
  pub id_given : IsTrue (is_id id)
  pub entry_to : entry ≤ most_count

-- what the text of a move can say
pub record FitsMoved (place : ℕ) (to account : List ℕ) (amount : ℕ) : Type 0 where
  pub place_from : 1 ≤ place
  pub place_to : place ≤ most_count
  pub to_named : IsTrue (is_name to)
  pub account_named : IsTrue (is_name account)
  pub amount_from : 1 ≤ amount
  pub amount_to : amount ≤ MAX_CENTS

abbrev pub FitsStatus : ℕ → Status → Type 0
FitsStatus most (status.Turn place to turn msg from id entry reason) = FitsTurn most place to msg from id entry
FitsStatus most (status.Moved place to debit account amount) = FitsMoved place to account amount

-- a place, the number of a message and an amount are counted from 1, and no message is above `most`
abbrev pub IsCounted : ℕ → Status → Type 0
IsCounted most (status.Turn place to turn msg from id entry reason) = (1 ≤ place) × (1 ≤ msg) × (msg ≤ most)
IsCounted most (status.Moved place to debit account amount) = (1 ≤ place) × (1 ≤ amount)

-- the text of a status message, without the end of its line, is read as that one
abbrev pub StatusesAreRead : Type 0
StatusesAreRead = (most : ℕ) (s : Status) (line : List ℕ) → most ≤ most_count → FitsStatus most s → status_text s ≡ line ++ line_feed ∷ [] → read_status most line ≡ Some s

-- only the texts of status messages are read
abbrev pub OnlyStatusesAreRead : Type 0
OnlyStatusesAreRead = (most : ℕ) (s : Status) (line : List ℕ) → read_status most line ≡ Some s → FitsStatus most s × (status_text s ≡ line ++ line_feed ∷ [])
