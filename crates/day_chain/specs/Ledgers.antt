-- What is kept of a chain so far.
use Rattle.std.specs.Prelude.{ℕ, ◌≡◌, ◌≤◌, ◌+◌, ◌*◌, ◌-◌, true, if◌then◌else◌, List, [], ◌∷◌, Option, Some, None, length, map, reverse, unwrap_or}
use Rattle.std.specs.List.{range_with_len}
use Rattle.cash_amounts.specs.Numbers.{numbered}
use Rattle.cash_amounts.specs.declared.limits.TheConstants.{MAX_ACCOUNTS}
use Rattle.batch_records.specs.DayRecord.{Day}
use Rattle.machine.specs.Orders.Bounds.{move_limit}
use Rattle.machine.specs.Orders.Order.{plain}
use Rattle.settle_floor.specs.Floors.{has_all}
use Rattle.settle_floor.specs.Tills.{KeepsBalances}
use Rattle.machine.specs.Words.{is_technical, some_passes}
use Rattle.day_chain.specs.declared.joining.DayBefore.{DayBefore}
use Rattle.day_chain.specs.declared.ledger.Last.{Last}
use Rattle.day_chain.specs.declared.ledger.Ledger.{Ledger}
use Rattle.day_chain.specs.declared.ledger.YearSums.{YearSums}
use Rattle.day_chain.specs.Statements.{by_year, sums_of, year_of}
use Rattle.day_chain.specs.Summing.{blank, HaveRoom}
use Rattle.day_chain.specs.declared.sums.Sums.{Sums}

-- ---- what a day leaves

-- with what an account opens the next day, by what is kept of the day before
abbrev pub carried_by : DayBefore → ℕ → ℕ
carried_by before a = if some_passes (λ r. is_technical r.kind) (numbered before.accounts a) then 0 else unwrap_or (numbered before.till a) 0

-- what is kept is of this day
pub record IsLeftBy (day : Day) (before : DayBefore) : Type 0 where
  pub date : before.date ≡ day.date
  pub accounts : before.accounts ≡ day.accounts
  pub systems : before.systems ≡ day.systems
  pub few : length before.accounts ≤ MAX_ACCOUNTS
  pub all : has_all (numbered before.till) day ≡ true
  pub kept : KeepsBalances (numbered before.till) day (plain day)

-- ---- the sums of the years

-- how many amounts a day can add to the sums of an account at most: two for each move, and what each account sets aside
abbrev pub most_amounts : ℕ
most_amounts = 2 * move_limit + MAX_ACCOUNTS

-- how many days an input can have
abbrev pub most_days : ℕ
most_days = 536870913

-- the sums of n accounts over the days of a year
pub record IsBook (n : ℕ) (days : List Day) (book : YearSums) : Type 0 where
  pub year : book.year ≡ year_of days
  pub sums : book.sums.items ≡ map (sums_of days) (range_with_len 1 n)
  pub room : HaveRoom 0 book.sums.items

abbrev pub AreBooks : ℕ → List (List Day) → List YearSums → Type 0
AreBooks n [] [] = Unit {0}
AreBooks n [] (book ∷ books) = ⊥
AreBooks n (days ∷ years) [] = ⊥
AreBooks n (days ∷ years) (book ∷ books) = IsBook n days book × AreBooks n years books

-- the sums before a day, after the days of its year so far
abbrev pub sums_before : Day → List Day → ℕ → Sums
sums_before day [] = blank day
sums_before day (last ∷ days) = sums_of (last ∷ days)

-- the sums to which those of a day are to be added, and those of the years before
pub record IsOpened (day : Day) (told : List Day) (book : YearSums) (books : List YearSums) : Type 0 where
  pub days : List Day
  pub years : List (List Day)
  pub are : by_year (day ∷ told) ≡ (day ∷ days) ∷ years
  pub year : book.year ≡ day.date.year
  pub sums : book.sums.items ≡ map (sums_before day days) (range_with_len 1 (length day.accounts))
  pub earlier : AreBooks (length day.accounts) (reverse years) books
  pub room : HaveRoom (most_amounts * (most_days - length told)) book.sums.items

-- ---- after the days told

pub record StandsBehind (day : Day) (told : List Day) (last : Last) (books : List YearSums) : Type 0 where
  pub days : List Day
  pub years : List (List Day)
  pub are : by_year (day ∷ told) ≡ days ∷ years
  pub left : IsLeftBy day last.before
  pub latest : IsBook (length day.accounts) days last.year
  pub earlier : AreBooks (length day.accounts) (reverse years) books
  pub room : HaveRoom (most_amounts * (most_days - length (day ∷ told))) last.year.sums.items

abbrev pub StandsAt : Option Last → List Day → List YearSums → Type 0
StandsAt None [] books = books ≡ []
StandsAt None (day ∷ told) books = ⊥
StandsAt (Some last) [] books = ⊥
StandsAt (Some last) (day ∷ told) books = StandsBehind day told last books

pub record Stands (told : List Day) (ledger : Ledger) : Type 0 where
  pub count : ledger.count ≡ length told
  pub at : StandsAt ledger.last told ledger.years.items
