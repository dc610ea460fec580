-- The texts of times of a day, in seconds.
use Rattle.std.specs.Prelude.{ℕ, ◌+◌, ◌*◌, Bool, true, nat_lt, nat_le, ◌&&◌, ◌==◌, Option, Some, None, if◌then◌else◌, List, [], ◌∷◌}
use Rattle.period_calendar.specs.declared.time.TheConstants.{MIDNIGHT}
use Rattle.period_calendar.specs.Digits.{two_digits}

-- the seconds of a time of the clock, up to the end of the day
abbrev pub clock_time : ℕ → ℕ → ℕ → Option ℕ
clock_time hours minutes seconds =
    if nat_lt minutes 60 && nat_lt seconds 60 && nat_le (3600 * hours + 60 * minutes + seconds) MIDNIGHT
    then Some (3600 * hours + 60 * minutes + seconds) else None

-- the same of numbers that may be absent, where the colons stand between them
abbrev pub time_of_parts : Bool → Option ℕ → Option ℕ → Option ℕ → Option ℕ
time_of_parts true (Some hours) (Some minutes) (Some seconds) = clock_time hours minutes seconds
time_of_parts _ _ _ _ = None

-- the seconds that a text HH:MM:SS from 00:00:00 to 24:00:00 stands for
unfoldable pub time_of_text : List ℕ → Option ℕ
time_of_text (hour_tens ∷ hours ∷ colon ∷ minute_tens ∷ minutes ∷ second_colon ∷ second_tens ∷ seconds ∷ []) =
    time_of_parts (colon == 58 && second_colon == 58) (two_digits hour_tens hours) (two_digits minute_tens minutes) (two_digits second_tens seconds)
time_of_text _ = None
