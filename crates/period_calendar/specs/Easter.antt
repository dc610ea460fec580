-- Easter Sunday by the Gregorian computus: the Sunday after the full moon on or after 21 March.
use Rattle.std.specs.Prelude.{ℕ, ◌+◌, ◌-◌, ◌*◌, ◌/◌, ◌%◌}

-- by how many days the moon has left its cycle of 19 years in so many centuries
abbrev pub moon_drift : ℕ → ℕ
moon_drift century = (century - (century + 8) / 25 + 1) / 3

-- how many days after 21 March the full moon is
unfoldable pub full_moon : ℕ → ℕ
full_moon year = (19 * (year % 19) + year / 100 - year / 100 / 4 - moon_drift (year / 100) + 15) % 30

-- how many days after the day that follows the full moon the Sunday is
unfoldable pub days_to_sunday : ℕ → ℕ
days_to_sunday year =
    (32 + 2 * (year / 100 % 4) + 2 * (year % 100 / 4) - full_moon year - year % 100 % 4) % 7

-- how many weeks earlier Easter is where the moon would come too late
unfoldable pub weeks_back : ℕ → ℕ
weeks_back year = (year % 19 + 11 * full_moon year + 22 * days_to_sunday year) / 451

-- the place of Easter Sunday in months of 31 days, which gives its month and day
unfoldable pub easter_place : ℕ → ℕ
easter_place year = full_moon year + days_to_sunday year + 114 - 7 * weeks_back year

-- the month and the day of Easter Sunday
abbrev pub easter_of : ℕ → ℕ × ℕ
easter_of year = (easter_place year / 31, easter_place year % 31 + 1)
