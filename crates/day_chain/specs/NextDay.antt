-- The open day that follows a day, as a test.
use Rattle.std.specs.Prelude.{ℕ, ◌+◌, ◌-◌, ◌/◌, ◌%◌, Bool, not, ◌&&◌, nat_lt}
use Rattle.std.specs.List.{list_all, range_with_len}
use Rattle.period_calendar.specs.Calendar.{CivilDay}
use Rattle.period_calendar.specs.Closing.{is_open}
use Rattle.period_calendar.specs.NextDay.{digits_of}

-- whether the digits YYYYMMDD spell an open day
abbrev pub is_open_at : ℕ → Bool
is_open_at digits = is_open (digits / 100 / 100) (digits / 100 % 100) (digits % 100)

-- whether the other day is open and follows the day, with no open day between them
unfoldable pub is_next : CivilDay → CivilDay → Bool
is_next day next =
    is_open next.year next.month next.day
    && nat_lt (digits_of day) (digits_of next)
    && list_all (λ digits. not (is_open_at digits)) (range_with_len (digits_of day + 1) (digits_of next - digits_of day - 1))
