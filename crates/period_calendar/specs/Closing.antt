-- The days on which TARGET is closed.
use Rattle.std.specs.Prelude.{ℕ, ◌+◌, Bool, not, nat_le, ◌&&◌, ◌||◌, ◌==◌}
use Rattle.period_calendar.specs.Calendar.{is_civil, is_known_year, day_number, weekday}
use Rattle.period_calendar.specs.Easter.{easter_of}

-- how many days after 1 January 2023 the year's Easter Sunday is
abbrev pub easter_number : ℕ → ℕ
easter_number year = day_number year (easter_of year).0 (easter_of year).1

abbrev pub is_weekend : ℕ → ℕ → ℕ → Bool
is_weekend year month day = nat_le 5 (weekday year month day)

-- two days before Easter Sunday
abbrev pub is_good_friday : ℕ → ℕ → ℕ → Bool
is_good_friday year month day = day_number year month day + 2 == easter_number year

-- the day after Easter Sunday
abbrev pub is_easter_monday : ℕ → ℕ → ℕ → Bool
is_easter_monday year month day = day_number year month day == easter_number year + 1

-- 1 January, 1 May, 25 December and 26 December
abbrev pub is_fixed_holiday : ℕ → ℕ → Bool
is_fixed_holiday month day =
    (month == 1 && day == 1) || (month == 5 && day == 1) || (month == 12 && day == 25) || (month == 12 && day == 26)

-- the days on which TARGET is closed
unfoldable pub is_closing : ℕ → ℕ → ℕ → Bool
is_closing year month day =
    is_weekend year month day || is_fixed_holiday month day || is_good_friday year month day || is_easter_monday year month day

-- the calendar has the day, its closing days are known, and it is none of them
unfoldable pub is_open : ℕ → ℕ → ℕ → Bool
is_open year month day = is_civil year month day && is_known_year year && not (is_closing year month day)
