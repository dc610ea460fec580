-- What nets and the batches of positions keep, as statements.
use Rattle.std.specs.Prelude.{ℕ, ◌≡◌, ◌≢◌, ◌⊎◌, true, false, List, Option, Some, Ok, pos, length, sum_by}
use Rattle.std.specs.List.{list_all}
use Rattle.cash_amounts.specs.declared.records.Procedure.{Procedure}
use Rattle.cash_amounts.specs.declared.records.Procedure.TheVariants.{A, B}
use Rattle.batch_records.specs.DayRecord.{Day}
use Rattle.batch_records.specs.declared.day.Message.{Message}
use Rattle.batch_records.specs.declared.day.Body.{Body}
use Rattle.commit_journal.specs.declared.line.Code.TheVariants as line_codes
use Rattle.commit_journal.specs.Line.{History}
use Rattle.machine.specs.Words.{same_account, is_empty}
use Rattle.machine.specs.Records.Setup.{account_named, is_dca_account, technical}
use Rattle.machine.specs.Records.Messages.{message_at, entries_in, count_in, sum_in}
use Rattle.machine.specs.Telling.History.{taken_code}
use Rattle.machine.specs.Stages.Intake.{amount_of, intake_code}
use Rattle.machine.specs.Legal.{IsLegal}
use Rattle.as_client.specs.declared.trade.Trade.{Trade}
use Rattle.as_client.specs.declared.trade.Position.{Position}
use Rattle.as_client.specs.Netting.{net, is_open}
use Rattle.as_client.specs.BatchOf.{sum_of_positions, batch_of, debits_of, credits_of, entries_of_positions}

abbrev pub NetsSumToZero : Type 0
NetsSumToZero = (trades : List Trade) → sum_of_positions (net trades) ≡ pos 0

-- its own count and sum, and equal sums of debits and credits
pub record IsBalanced (positions : List Position) (technical : List ℕ) (body : Body) : Type 0 where
  pub entries : entries_in body ≡ entries_of_positions technical positions
  pub count : count_in body ≡ length (entries_in body)
  pub sum : sum_in body ≡ sum_by amount_of (entries_in body)
  pub sides : sum_by amount_of (debits_of technical positions) ≡ sum_by amount_of (credits_of technical positions)

abbrev pub BatchesBalance : Type 0
BatchesBalance = (positions : List Position) (technical : List ℕ) (p : Procedure) (info till : Option ℕ) (body : Body) →
    batch_of positions technical p info till ≡ Ok body → IsBalanced positions technical body

-- positions that are some, none of them nought
pub record AreOpen (positions : List Position) : Type 0 where
  pub some : is_empty positions ≡ false
  pub each : list_all is_open positions ≡ true

-- The code that the message would get after these lines doesn't blame the number of entries, nor their sum. Nor does the one
-- with which they took it, where they are a legal journal's.
pub record StatesItsOwn (day : Day) (J : History) (n : ℕ) : Type 0 where
  pub count : intake_code day J n ≢ line_codes.Ct
  pub sum : intake_code day J n ≢ line_codes.Sm
  pub count_taken : IsLegal day J → taken_code J n ≢ Some line_codes.Ct
  pub sum_taken : IsLegal day J → taken_code J n ≢ Some line_codes.Sm

abbrev pub BatchesStateTheirOwn : Type 0
BatchesStateTheirOwn = (day : Day) (J : History) (n : ℕ) (m : Message) (positions : List Position) (name : List ℕ) (p : Procedure) (info till : Option ℕ) →
    message_at day n ≡ Some m → batch_of positions name p info till ≡ Ok m.body → AreOpen positions → StatesItsOwn day J n

-- the accounts are DCAs, and the technical account is that of the system for the procedure
pub record AreAccounts (day : Day) (system : List ℕ) (p : Procedure) (positions : List Position) (name : List ℕ) : Type 0 where
  pub members : list_all (λ q. is_dca_account day q.account) positions ≡ true
  pub own : same_account (account_named day name) (technical day system p) ≡ true

-- The code that the message would get after these lines blames neither a difference of the two sides nor the form of an entry.
-- Nor does the one with which they took it, where they are a legal journal's.
pub record FitsItsProcedure (day : Day) (J : History) (n : ℕ) : Type 0 where
  pub sides : intake_code day J n ≢ line_codes.Nz
  pub forms : intake_code day J n ≢ line_codes.En
  pub sides_taken : IsLegal day J → taken_code J n ≢ Some line_codes.Nz
  pub forms_taken : IsLegal day J → taken_code J n ≢ Some line_codes.En

abbrev pub BatchesFitTheirProcedure : Type 0
BatchesFitTheirProcedure = (day : Day) (J : History) (n : ℕ) (m : Message) (positions : List Position) (name : List ℕ) (p : Procedure) (info till : Option ℕ) →
    message_at day n ≡ Some m → batch_of positions name p info till ≡ Ok m.body → (p ≡ A) ⊎ (p ≡ B) → AreAccounts day m.sender p positions name → FitsItsProcedure day J n
