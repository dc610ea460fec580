-- Dates and times as written texts.
use Rattle.std.specs.Prelude.{ℕ, ◌+◌, ◌/◌, ◌%◌, List, [], ◌∷◌, ◌++◌}
use Rattle.period_calendar.specs.Calendar.{CivilDay}

-- the last two digits of a number
abbrev pub two_digits_text : ℕ → List ℕ
two_digits_text number = (48 + number / 10 % 10) ∷ (48 + number % 10) ∷ []

-- the text of so many seconds: HH:MM:SS
abbrev pub time_text : ℕ → List ℕ
time_text seconds =
    two_digits_text (seconds / 3600) ++ 58 ∷ two_digits_text (seconds / 60 % 60) ++ 58 ∷ two_digits_text (seconds % 60)

-- the text of a day: YYYY-MM-DD
abbrev pub date_text : CivilDay → List ℕ
date_text date =
    two_digits_text (date.year / 100) ++ two_digits_text date.year ++ 45 ∷ two_digits_text date.month ++ 45 ∷ two_digits_text date.day
