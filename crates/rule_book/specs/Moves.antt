-- What the items of a day move, with accounts by their numbers, and what an entry's move tells of the entry.
use Rattle.std.specs.Prelude.{ℕ, ◌≡◌, ◌≤◌, ◌+◌, Bool, true, false, not, ◌&&◌, ◌||◌, List, [], ◌∷◌, ◌++◌, Option, Some, None, length, map, sum_by, option_map, slice_get, unwrap_or}
use Rattle.cash_amounts.specs.declared.records.AccountRecord.{AccountRecord}
use Rattle.batch_records.specs.DayRecord.{Day}
use Rattle.batch_records.specs.Repeats.{message_numbers}
use Rattle.commit_journal.specs.declared.line.Move.{Move}
use Rattle.row_list.specs.Rows.{Rows}
use Rattle.machine.specs.Words.{is_dca, numbered, same_account, some_passes}
use Rattle.machine.specs.Records.Setup.{account_at}
use Rattle.machine.specs.Records.Messages.{entries, move_of, transfer}

-- ---- what is kept of a day

-- of each message the move of its transfer, and those of its entries
pub record Moves : Type 0 where
  pub transfers : List (Option Move)
  pub rows : List (List Move)

-- the move of a payment or of a liquidity transfer
abbrev pub transfer_move : Day → ℕ → Option Move
transfer_move day n = option_map (move_of day) (transfer day n)

-- those of a batch's entries
abbrev pub entry_moves : Day → ℕ → List Move
entry_moves day n = map (move_of day) (entries day n)

-- the same of each message
abbrev pub moves_of : Day → Moves
moves_of day = record { transfers = map (transfer_move day) (message_numbers day); rows = map (entry_moves day) (message_numbers day) }

-- row n of rows, and nothing where there is none
abbrev pub row_in : {X : Type 0} → List (List X) → ℕ → List X
row_in rows n = unwrap_or (numbered rows n) []

-- what item k of message n moves
abbrev pub move_in : Moves → ℕ → ℕ → Option Move
move_in moves n ℕ.zero = unwrap_or (numbered moves.transfers n) None
move_in moves n (ℕ.suc k) = slice_get (row_in moves.rows n) k

-- ---- within room

-- those of some messages, one after another, and how many messages, and entries of all of them, there can be
pub record MovesInRoom : Type 0 where
  pub list : Moves
  pub messages : ℕ
  pub entries : ℕ

-- one message more
abbrev pub with_moves : Day → ℕ → MovesInRoom → MovesInRoom
with_moves day n moves = record {
  list = record { transfers = moves.list.transfers ++ transfer_move day n ∷ []; rows = moves.list.rows ++ entry_moves day n ∷ [] };
  messages = moves.messages;
  entries = moves.entries;
}

-- a row for each transfer, and room for all that there can be
pub record HasMoves (transfers room messages entries : ℕ) (rows : Rows Move) : Type 0 where
  pub one_each : transfers ≡ length rows.rows
  pub fits : messages ≤ room
  pub rows_fit : messages ≤ length rows.rows + rows.room_for_rows
  pub items_fit : entries ≤ sum_by length rows.rows + rows.room_for_items

-- ---- sides, where this is the technical account

abbrev pub goes_to : Option ℕ → Move → Bool
goes_to technical found = same_account (Some found.credit) technical

abbrev pub comes_from : Option ℕ → Move → Bool
comes_from technical found = same_account (Some found.debit) technical

abbrev pub goes_on_side : Bool → Option ℕ → Move → Bool
goes_on_side true technical found = goes_to technical found
goes_on_side false technical found = not (goes_to technical found)

-- what gives the move of a debit entry back: from the technical account to the debit account
abbrev pub given_back : Option ℕ → Move → Move
given_back technical found = record { debit = unwrap_or technical 0; credit = found.debit; amount = found.amount }

-- ---- accounts

-- whether the account of a number passes
abbrev pub passes_at : Day → (AccountRecord → Bool) → ℕ → Bool
passes_at day test a = some_passes test (account_at day a)

-- whether it is a dedicated cash account
abbrev pub is_dca_at : Day → ℕ → Bool
is_dca_at day a = passes_at day (λ r. is_dca r.kind) a

-- the form of an entry of A and B
abbrev pub joins : Day → Option ℕ → Move → Bool
joins day technical found = is_dca_at day found.debit && goes_to technical found || comes_from technical found && is_dca_at day found.credit

-- ---- amounts

abbrev pub moved_amount : Move → ℕ
moved_amount found = found.amount
