-- Chains of days, in words.
use Rattle.std.specs.Prelude.{ℕ, zero, suc, ◌≡◌, ◌+◌, ◌^◌, ◌<◌, ◌≤◌, ◌⊎◌, true, false, List, [], ◌∷◌, ◌++◌, drop, map, length, sum_by, Option, option_map, Ok}
use Rattle.cash_amounts.specs.declared.records.AccountRecord.{AccountRecord}
use Rattle.batch_records.specs.DayRecord.{Day}
use Rattle.batch_records.specs.Days.{day_of_bytes}
use Rattle.batch_records.specs.DayPart.{is_line_ends}
use Rattle.batch_records.specs.Sound.{is_sound}
use Rattle.machine.specs.Legal.{IsLegal, is_complete}
use Rattle.machine.specs.Laws.{Laws}
use Rattle.machine.specs.Orders.Order.{plain}
use Rattle.machine.specs.Records.Setup.{account_at, account_numbers, opening}
use Rattle.day_chain.specs.declared.joining.JoinFault.{JoinFault}
use Rattle.day_chain.specs.declared.joining.JoinFault.TheVariants as join_faults
use Rattle.day_chain.specs.declared.sums.Sums.{Sums}
use Rattle.day_chain.specs.DayEnds.{carried}
use Rattle.period_calendar.specs.NextDay.{IsNextOpen}
use Rattle.day_chain.specs.Statements.{by_year, closing_of, sums_of, year_of}

-- ---- which days the bytes are

-- a next day follows: this is the first, or more than line ends is left
abbrev pub GoesOn : List Day → List ℕ → Type 0
GoesOn told bytes = (told ≡ []) ⊎ (is_line_ends bytes ≡ false)

-- the day stands at the front of these bytes, with this rest after it
abbrev pub IsFirstDay : List ℕ → Day → List ℕ → Type 0
IsFirstDay bytes day rest = (n : ℕ) × (day_of_bytes bytes ≡ Ok (day, n)) × (rest ≡ drop n bytes)

-- The bytes are these days one after the other, of which the latest stands first here, and then this rest.
abbrev pub AreDays : List ℕ → List Day → List ℕ → Type 0
AreDays bytes [] rest = rest ≡ bytes
AreDays bytes (day ∷ told) rest = (before : List ℕ) × AreDays bytes told before × GoesOn told before × IsFirstDay before day rest

-- ---- that a day joins the one before it

-- an account but for its opening
abbrev pub terms : AccountRecord → AccountRecord
terms r = record r { opening = 0 }

abbrev pub terms_at : Day → ℕ → Option AccountRecord
terms_at day a = option_map terms (account_at day a)

abbrev pub HasSameSystems : Day → Day → Type 0
HasSameSystems before later = later.systems ≡ before.systems

abbrev pub HasSameAccounts : Day → Day → Type 0
HasSameAccounts before later = map terms later.accounts ≡ map terms before.accounts

-- each account opens with what it held at the end of the day before, a technical account with nothing
abbrev pub OpensAsClosed : Day → Day → Type 0
OpensAsClosed before later = (a : ℕ) → 1 ≤ a → a ≤ length later.accounts → opening later a ≡ carried before a

pub record Joins (before later : Day) : Type 0 where
  pub next : IsNextOpen before.date later.date
  pub systems : HasSameSystems before later
  pub accounts : HasSameAccounts before later
  pub openings : OpensAsClosed before later

abbrev pub AllJoin : List Day → Type 0
AllJoin [] = Unit {0}
AllJoin (day ∷ []) = Unit {0}
AllJoin (later ∷ before ∷ days) = Joins before later × AllJoin (before ∷ days)

-- ---- and that it doesn't

-- the first number at which something differs
pub record IsFirstOf (Differs : ℕ → Type 0) (a : ℕ) : Type 0 where
  pub from : 1 ≤ a
  pub there : Differs a
  pub first : (b : ℕ) → 1 ≤ b → b < a → Differs b → ⊥

-- what is wrong is this, and nothing that is looked at before
abbrev pub DiffersBy : Day → Day → JoinFault → Type 0
DiffersBy before later join_faults.Gap = IsNextOpen before.date later.date → ⊥
DiffersBy before later (join_faults.Setup zero) = IsNextOpen before.date later.date × (HasSameSystems before later → ⊥)
DiffersBy before later (join_faults.Setup (suc a)) =
    IsNextOpen before.date later.date × HasSameSystems before later × IsFirstOf (λ b. terms_at later b ≡ terms_at before b → ⊥) (suc a)
DiffersBy before later (join_faults.Open a) =
    IsNextOpen before.date later.date × HasSameSystems before later × HasSameAccounts before later
    × IsFirstOf (λ b. opening later b ≡ carried before b → ⊥) a

-- ---- that a day is settled

-- The journal of the written order of a sound day is legal and complete, and keeps the laws.
pub record IsSettled (day : Day) : Type 0 where
  pub sound : is_sound day ≡ true
  pub legal : IsLegal day (plain day)
  pub complete : is_complete (plain day) ≡ true
  pub laws : Laws day (plain day)

abbrev pub AllSettled : List Day → Type 0
AllSettled [] = Unit {0}
AllSettled (day ∷ days) = IsSettled day × AllSettled days

-- the days are the front of a chain, with this rest after them
pub record IsFront (bytes : List ℕ) (told : List Day) (rest : List ℕ) : Type 0 where
  pub days : AreDays bytes told rest
  pub joined : AllJoin told
  pub settled : AllSettled told

-- ---- what the statements say

-- of the days of one year, the latest first
abbrev pub total : (Day → ℕ → ℕ) → Day → ℕ
total amount day = sum_by (amount day) (account_numbers day)

-- what all accounts opened the earliest of the days with
abbrev pub first_openings : List Day → ℕ
first_openings [] = 0
first_openings (day ∷ []) = total opening day
first_openings (day ∷ days) = first_openings days

-- what a column of the statements of one year sums to
abbrev pub column : (Sums → ℕ) → List Day → ℕ
column amount [] = 0
column amount (day ∷ days) = sum_by (λ a. amount (sums_of (day ∷ days) a)) (account_numbers day)

-- of the statements of all years
abbrev pub columns : (Sums → ℕ) → List (List Day) → ℕ
columns amount [] = 0
columns amount (days ∷ years) = columns amount years + column amount days

abbrev pub last_column : (Sums → ℕ) → List (List Day) → ℕ
last_column amount [] = 0
last_column amount (days ∷ years) = column amount days

-- these days are of this year
abbrev pub AllOf : ℕ → List Day → Type 0
AllOf year [] = Unit {0}
AllOf year (day ∷ days) = (day.date.year ≡ year) × AllOf year days

-- these days are of earlier years
abbrev pub AllEarlier : ℕ → List (List Day) → Type 0
AllEarlier year [] = Unit {0}
AllEarlier year (days ∷ years) = (year_of days < year) × AllEarlier year years

-- each list has days of one year, a later one than those of the lists after it
abbrev pub AreYears : List (List Day) → Type 0
AreYears [] = Unit {0}
AreYears (days ∷ years) = (AllOf (year_of days) days × AllEarlier (year_of days) years) × AreYears years

-- the days of all years, one after the other
abbrev pub all_days : List (List Day) → List Day
all_days [] = []
all_days (days ∷ years) = days ++ all_days years

-- The lists are the days of a chain by their years: together they are its days, and each has all days of a year.
pub record AreByYear (told : List Day) (years : List (List Day)) : Type 0 where
  pub together : all_days years ≡ told
  pub apart : AreYears years

-- All openings of the first day are what the statements of the last year close with and what was set aside in all.
abbrev pub NothingIsLost : List Day → Type 0
NothingIsLost told = first_openings told ≡ last_column closing_of (by_year told) + columns (λ s. s.aside) (by_year told)

-- a statement's opening and credits are its debits, what was set aside and its closing, so nothing is cut off at 0
abbrev pub IsEven : Sums → Type 0
IsEven s = s.opening + s.credits ≡ (s.debits + s.aside) + closing_of s

-- how many accounts some days have
abbrev pub account_count : List Day → ℕ
account_count [] = 0
account_count (day ∷ days) = length day.accounts

-- of each account and year
abbrev pub AreEven : List (List Day) → Type 0
AreEven [] = Unit {0}
AreEven (days ∷ years) = ((a : ℕ) → 1 ≤ a → a ≤ account_count days → IsEven (sums_of days a)) × AreEven years

-- No amount of a statement wraps in 128 bits, nor does the sum from which the closing is reckoned.
pub record IsWithin (s : Sums) : Type 0 where
  pub opening : s.opening < 2 ^ 128
  pub debits : s.debits < 2 ^ 128
  pub credits : s.credits < 2 ^ 128
  pub aside : s.aside < 2 ^ 128
  pub incoming : s.opening + s.credits < 2 ^ 128
  pub outgoing : s.debits + s.aside < 2 ^ 128
  pub closing : closing_of s < 2 ^ 128

-- of each account and year
abbrev pub AreWithin : List (List Day) → Type 0
AreWithin [] = Unit {0}
AreWithin (days ∷ years) = ((a : ℕ) → IsWithin (sums_of days a)) × AreWithin years
