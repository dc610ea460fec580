-- What a technical account of procedure A holds, and what is booked from it next.
use Rattle.std.specs.Prelude.{ℕ, ◌≡◌, ◌≤◌, ◌+◌, Bool, true, false, ◌&&◌, List, Some, None, filter, map, sum_by, is_none}
use Rattle.batch_records.specs.DayRecord.{Day}
use Rattle.batch_records.specs.declared.day.Entry.{Entry}
use Rattle.cash_amounts.specs.declared.records.Procedure.TheVariants.{A}
use Rattle.commit_journal.specs.declared.line.Move.{Move}
use Rattle.commit_journal.specs.Line.{Line, History}
use Rattle.machine.specs.declared.answers.Item.{Item}
use Rattle.machine.specs.Words.{same_name}
use Rattle.machine.specs.Records.Setup.{technical}
use Rattle.machine.specs.Records.Messages.{sort_of, sender, message_numbers, entry_at, is_a, is_on_side, is_credit_entry, debit_account}
use Rattle.machine.specs.Telling.History.{is_cover_of, closed}
use Rattle.machine.specs.Telling.Balances.{balance}
use Rattle.machine.specs.Stages.Intake.{amount_of}
use Rattle.machine.specs.Stages.Phases.{is_booked}
use Rattle.machine.specs.Stages.Pending.{is_pending, standing, is_ahead}
use Rattle.machine.specs.Stages.Blockers.{first_blocker}
use Rattle.machine.specs.Making.Lines.{counted_entries}

-- ---- of one batch

-- the booked entries of batch n on its debit side, or on its credit side
abbrev pub booked_side : Bool → Day → History → ℕ → List Entry
booked_side debits day J n =
    map (λ (x : ℕ × Entry). x.1) (filter (λ (x : ℕ × Entry). is_on_side debits day n x.1 && is_booked J n x.0) (counted_entries day n))

abbrev pub booked_debits : Day → History → ℕ → ℕ
booked_debits day J n = sum_by amount_of (booked_side true day J n)

abbrev pub booked_credits : Day → History → ℕ → ℕ
booked_credits day J n = sum_by amount_of (booked_side false day J n)

-- the amount of all moves of the line
abbrev pub amount_moved : Line → ℕ
amount_moved l = sum_by (λ (m : Move). m.amount) l.moves

-- what the fund paid for batch n: what its Cover line moved
abbrev pub paid_by_fund : History → ℕ → ℕ
paid_by_fund J n = sum_by amount_moved (filter (is_cover_of n) J)

-- no batch's own part is below zero: it pays no more credits than its debits and the fund brought
abbrev pub NoPartIsBelowZero : Day → History → Type 0
NoPartIsBelowZero day J = (n : ℕ) → is_a (sort_of day n) ≡ true → booked_credits day J n ≤ booked_debits day J n + paid_by_fund J n

-- ---- of all batches of a system

abbrev pub is_unclosed : Day → History → List ℕ → ℕ → Bool
is_unclosed day J system n = is_a (sort_of day n) && same_name (sender day n) system && is_none (closed J n)

-- the system's batches of A that aren't closed
abbrev pub unclosed_batches : Day → History → List ℕ → List ℕ
unclosed_batches day J system = filter (is_unclosed day J system) (message_numbers day)

-- what the system's technical account of A holds, with the credits booked, is what the debits booked and the fund brought
abbrev pub HoldsItsBatches : Day → History → Type 0
HoldsItsBatches day J = (system : List ℕ) (a : ℕ) → technical day system A ≡ Some a →
    balance day J a + sum_by (booked_credits day J) (unclosed_batches day J system)
    ≡ sum_by (booked_debits day J) (unclosed_batches day J system) + sum_by (paid_by_fund J) (unclosed_batches day J system)

-- ---- the credit entries that are pending on an account

-- x is entry e of a batch of A, a credit entry that is pending on account a
pub record IsCreditOn (day : Day) (J : History) (a : ℕ) (x : Item) (e : Entry) : Type 0 where
  pub of_a : is_a (sort_of day x.msg) ≡ true
  pub entry : entry_at day x.msg x.entry ≡ Some e
  pub credit : is_credit_entry day x.msg e ≡ true
  pub account : debit_account day e ≡ a
  pub pending : is_pending day J x ≡ true

-- and none of those is of an earlier place; their priority is the same
abbrev pub IsEarliestOn : Day → History → ℕ → Item → Entry → Type 0
IsEarliestOn day J a x e =
    IsCreditOn day J a x e
    × ((y : Item) (f : Entry) → IsCreditOn day J a y f → is_ahead (standing day J y) (standing day J x) ≡ false)

-- the earliest is free, and the account covers it
abbrev pub EarliestCreditIsFree : Day → History → Type 0
EarliestCreditIsFree day J = (a : ℕ) (x : Item) (e : Entry) → IsEarliestOn day J a x e →
    (first_blocker day J x a ≡ None) × (e.amount ≤ balance day J a)
