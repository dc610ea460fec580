-- What is found out about a day once.
use Rattle.std.specs.Prelude.{ℕ, ◌≡◌, List, [], map}
use Rattle.account_book.specs.Setup.{Setup}
use Rattle.batch_records.specs.DayRecord.{Day}
use Rattle.batch_records.specs.Repeats.{message_numbers}
use Rattle.machine.specs.Records.Messages.{fund_of, technical_of}
pub use Rattle.machine.specs.Records.Reserves.{kept_of}
use Rattle.rule_book.specs.declared.found.Found.{Found}
pub use Rattle.rule_book.specs.Moves.{move_in, moves_of}
use Rattle.rule_book.specs.Repeated.{AreRepeats}
use Rattle.rule_book.specs.declared.system_accounts.SystemAccounts.{SystemAccounts}

-- the accounts and systems of a day
abbrev pub setup_of : Day → Setup
setup_of day = record { accounts = day.accounts; systems = day.systems }

-- the accounts of the sender of a message, as a system
abbrev pub accounts_of : Day → ℕ → SystemAccounts
accounts_of day n = record { technical = technical_of day n; fund = fund_of day n }

-- the same of each message
abbrev pub accounts_of_senders : Day → List SystemAccounts
accounts_of_senders day = map (accounts_of day) (message_numbers day)

-- all of it
abbrev pub IsFound : Day → Found → Type 0
IsFound day found = AreRepeats day found.repeats × ((found.moves.list ≡ moves_of day) × (found.accounts.accounts ≡ accounts_of_senders day))

-- of no messages
pub record IsNothing (found : Found) : Type 0 where
  pub names : found.repeats.names ≡ []
  pub repeats : found.repeats.repeats ≡ []
  pub moves : found.moves.list ≡ record { transfers = []; rows = [] }
  pub accounts : found.accounts.accounts ≡ []
