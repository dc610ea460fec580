-- The texts of dates, and what is wrong with other texts.
use Rattle.std.specs.Prelude.{ℕ, Bool, true, not, ◌&&◌, ◌==◌, Option, Some, None, Result, Ok, Err, if◌then◌else◌, List, [], ◌∷◌}
use Rattle.period_calendar.specs.declared.date.DateFault.{DateFault}
use Rattle.period_calendar.specs.declared.date.DateFault.TheVariants.{Form, NoSuchDay, Years, Closed}
use Rattle.period_calendar.specs.Calendar.{CivilDay, is_civil, is_known_year}
use Rattle.period_calendar.specs.Closing.{is_closing}
use Rattle.period_calendar.specs.Digits.{two_digits, four_digits}

-- three numbers, where each is there and the dashes stand between them
abbrev pub dashed_parts : Bool → Option ℕ → Option ℕ → Option ℕ → Option (ℕ × ℕ × ℕ)
dashed_parts true (Some year) (Some month) (Some day) = Some (year, month, day)
dashed_parts _ _ _ _ = None

-- four digits, a dash, two digits, a dash and two digits, whatever day they name
unfoldable pub date_parts : List ℕ → Option (ℕ × ℕ × ℕ)
date_parts (thousands ∷ hundreds ∷ decades ∷ years ∷ dash ∷ month_tens ∷ months ∷ second_dash ∷ day_tens ∷ days ∷ []) =
    dashed_parts (dash == 45 && second_dash == 45) (four_digits thousands hundreds decades years) (two_digits month_tens months) (two_digits day_tens days)
date_parts _ = None

-- the open day, or the first fault that applies
abbrev pub day_or_fault : Option (ℕ × ℕ × ℕ) → Result CivilDay DateFault
day_or_fault None = Err Form
day_or_fault (Some (year, month, day)) =
    if not (is_civil year month day) then Err NoSuchDay
    else (if not (is_known_year year) then Err Years
    else (if is_closing year month day then Err Closed
    else Ok (record { year = year; month = month; day = day })))

-- what a text is as a date
unfoldable pub date_of_text : List ℕ → Result CivilDay DateFault
date_of_text text = day_or_fault (date_parts text)
