-- The statements of a chain of days: one for each account and year.
use Rattle.std.specs.Prelude.{ℕ, ◌+◌, ◌-◌, if◌then◌else◌, List, [], ◌∷◌, nat_eq}
use Rattle.batch_records.specs.DayRecord.{Day}
use Rattle.machine.specs.Records.Setup.{opening}
use Rattle.machine.specs.Telling.Balances.{credited, debited}
use Rattle.machine.specs.Orders.Order.{plain}
use Rattle.day_chain.specs.declared.sums.Sums.{Sums}
use Rattle.day_chain.specs.DayEnds.{set_aside}

-- Days stand in lists with the latest first.

-- ---- the days of each year

-- the year of the latest of some days
abbrev pub year_of : List Day → ℕ
year_of [] = 0
year_of (day ∷ days) = day.date.year

-- one day more, which may be of the latest year, or the first of a year
abbrev pub with_day : Day → List (List Day) → List (List Day)
with_day day [] = (day ∷ []) ∷ []
with_day day (days ∷ years) = if nat_eq (year_of days) day.date.year then (day ∷ days) ∷ years else (day ∷ []) ∷ days ∷ years

-- the days by their years, the latest year first
unfoldable pub by_year : List Day → List (List Day)
by_year [] = []
by_year (day ∷ days) = with_day day (by_year days)

-- ---- the statement of an account over the days of a year

-- the sum of an amount that each day has
abbrev pub over : (Day → ℕ) → List Day → ℕ
over amount [] = 0
over amount (day ∷ days) = over amount days + amount day

-- with what the account opened the earliest of the days
abbrev pub first_opening : List Day → ℕ → ℕ
first_opening [] a = 0
first_opening (day ∷ []) a = opening day a
first_opening (day ∷ days) a = first_opening days a

-- over the days and their journals, all in cents
unfoldable pub sums_of : List Day → ℕ → Sums
sums_of days a = record {
  opening = first_opening days a;
  debits = over (λ day. debited (plain day) a) days;
  credits = over (λ day. credited (plain day) a) days;
  aside = over (λ day. set_aside day a) days;
}

abbrev pub closing_of : Sums → ℕ
closing_of s = ((s.opening + s.credits) - s.debits) - s.aside
