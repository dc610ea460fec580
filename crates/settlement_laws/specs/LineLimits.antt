-- What keeps a line from standing: the times of its batch, the end of its batch's cycle, what accounts keep, and the lock of sub-accounts.
use Rattle.std.specs.Prelude.{ℕ, ◌+◌, ◌≤◌, ◌<◌, ◌≡◌, ◌⊎◌, ◌||◌, true, false, List, [], ◌∷◌, Some, None}
use Rattle.batch_records.specs.DayRecord.{Day}
use Rattle.commit_journal.specs.declared.line.Move.{Move}
use Rattle.commit_journal.specs.Line.{Line, History}
use Rattle.machine.specs.Records.Setup.{is_sub_account, linked}
use Rattle.machine.specs.Records.Messages.{sort_of, is_c, is_liquidity, info_end, earliest, settlement_end}
use Rattle.machine.specs.Records.Reserves.{kept, must_leave}
use Rattle.machine.specs.Telling.History.{is_in, is_book, is_all, covered, clock}
use Rattle.machine.specs.Telling.Balances.{balance}
use Rattle.machine.specs.Telling.Facts.{takes_well, open_cycle, cycle_ended}
use Rattle.machine.specs.Laws.{EachLine}

-- ---- times

-- the clock has reached each of the two times before which batch n isn't settled, its information end and its earliest time, that it states
abbrev pub HasBegun : Day → History → ℕ → Type 0
HasBegun day J n = (time : ℕ) → (info_end day n ≡ Some time) ⊎ (earliest day n ≡ Some time) → time ≤ clock J

-- so it is before each line of a batch but its In line: before then nothing of it is booked or settled whole, nothing is asked of the fund
-- for it, and it is neither covered nor refused nor ended
abbrev pub AfterItsStart : Day → History → Type 0
AfterItsStart day J = EachLine (λ l before. is_in l.head.kind ≡ false → HasBegun day before l.head.msg) J

-- what is booked or settled whole is so before the settlement end, which is midnight where none is stated; but of a batch that has a Cover
-- line entries may be booked later
abbrev pub BeforeItsEnd : Day → History → Type 0
BeforeItsEnd day J = EachLine (λ l before. (is_book l.head.kind || is_all l.head.kind) ≡ true → covered before l.head.msg ≡ None → clock before < settlement_end day l.head.msg) J

-- ---- cycles

-- where an entry of a batch of C is booked, the batch's system hasn't ended a cycle since the batch was taken
abbrev pub BookedInItsCycle : Day → History → Type 0
BookedInItsCycle day J = EachLine (λ l before. is_book l.head.kind ≡ true → is_c (sort_of day l.head.msg) ≡ true → cycle_ended day l.head.msg before ≡ false) J

-- ---- what accounts keep

-- the line makes one move, whose debit account has its amount before the line, and beside it what is to be left there
abbrev pub Leaves : Day → Line → History → (ℕ → ℕ) → Type 0
Leaves day l J left = (m : Move) × (l.moves ≡ m ∷ []) × (m.amount + left m.debit ≤ balance day J m.debit)

-- what a payment or an entry must leave is left where it is booked
abbrev pub BookLeaves : Day → Line → History → Type 0
BookLeaves day l J = is_book l.head.kind ≡ true → Leaves day l J (must_leave day l.head.msg)

-- a liquidity transfer that is taken with code OK leaves what a normal payment must leave
abbrev pub TransferLeaves : Day → Line → History → Type 0
TransferLeaves day l J = takes_well l ≡ true → is_liquidity (sort_of day l.head.msg) ≡ true → Leaves day l J (λ a. kept day a false)

abbrev pub ReservesAreKept : Day → History → Type 0
ReservesAreKept day J = EachLine (λ l before. BookLeaves day l before × TransferLeaves day l before) J

-- ---- sub-accounts

-- no cycle of its system is open, if the account is a sub-account
abbrev pub IsUnlocked : Day → History → ℕ → Type 0
IsUnlocked day J a = is_sub_account day a ≡ true → (system : List ℕ) → linked day a ≡ Some system → open_cycle day system J ≡ None

-- a liquidity transfer that is taken with code OK makes one move, and before the line its debit account is so
abbrev pub PaysUnlocked : Day → Line → History → Type 0
PaysUnlocked day l J = takes_well l ≡ true → is_liquidity (sort_of day l.head.msg) ≡ true → (m : Move) × (l.moves ≡ m ∷ []) × IsUnlocked day J m.debit

abbrev pub LockedInCycles : Day → History → Type 0
LockedInCycles day J = EachLine (PaysUnlocked day) J
