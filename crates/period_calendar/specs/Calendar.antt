-- The civil calendar: which days there are, and how many days apart they lie.
use Rattle.std.specs.Prelude.{ℕ, zero, suc, ◌+◌, ◌-◌, ◌%◌, Bool, not, nat_le, ◌&&◌, ◌||◌, ◌==◌, if◌then◌else◌}

-- a day by its year, its month from 1 and its day of the month from 1
pub record CivilDay : Type 0 where
  pub year : ℕ
  pub month : ℕ
  pub day : ℕ

-- every fourth year, but of the centuries only every fourth
abbrev pub is_leap_year : ℕ → Bool
is_leap_year year = year % 4 == 0 && (not (year % 100 == 0) || year % 400 == 0)

abbrev pub days_in_year : ℕ → ℕ
days_in_year year = if is_leap_year year then 366 else 365

-- thirty days have April, June, September and November
abbrev pub days_in_month : ℕ → ℕ → ℕ
days_in_month year month =
    if month == 2 then (if is_leap_year year then 29 else 28)
    else (if month == 4 || month == 6 || month == 9 || month == 11 then 30 else 31)

-- the calendar has this day
unfoldable pub is_civil : ℕ → ℕ → ℕ → Bool
is_civil year month day = nat_le 1 month && nat_le month 12 && nat_le 1 day && nat_le day (days_in_month year month)

-- the years for which closing days are known
abbrev pub is_known_year : ℕ → Bool
is_known_year year = nat_le 2023 year && nat_le year 2099

-- the days of the first so many years from 2023 on
unfoldable pub days_of_years : ℕ → ℕ
days_of_years zero = 0
days_of_years (suc years) = days_of_years years + days_in_year (2023 + years)

-- the days of the first so many months of a year
unfoldable pub days_of_months : ℕ → ℕ → ℕ
days_of_months year zero = 0
days_of_months year (suc months) = days_of_months year months + days_in_month year (suc months)

-- how many days after 1 January 2023 a day of that year or a later one is
unfoldable pub day_number : ℕ → ℕ → ℕ → ℕ
day_number year month day = days_of_years (year - 2023) + days_of_months year (month - 1) + (day - 1)

-- its weekday, with 0 for Monday and 6 for Sunday, since 1 January 2023 was a Sunday
unfoldable pub weekday : ℕ → ℕ → ℕ → ℕ
weekday year month day = (day_number year month day + 6) % 7
