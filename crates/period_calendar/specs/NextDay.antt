-- The open day that follows a day.
use Rattle.std.specs.Prelude.{ℕ, ◌+◌, ◌*◌, ◌<◌, IsTrue}
use Rattle.period_calendar.specs.Calendar.{CivilDay, is_civil}
use Rattle.period_calendar.specs.Closing.{is_open}

-- the number that the digits YYYYMMDD of a day spell, which is greater for a later day
abbrev pub digits_of : CivilDay → ℕ
digits_of day = 10000 * day.year + 100 * day.month + day.day

abbrev pub IsLater : CivilDay → CivilDay → Type 0
IsLater day other = digits_of day < digits_of other

abbrev pub IsCivil : CivilDay → Type 0
IsCivil day = IsTrue (is_civil day.year day.month day.day)

abbrev pub IsOpen : CivilDay → Type 0
IsOpen day = IsTrue (is_open day.year day.month day.day)

-- the calendar has no day between the two
pub record IsDayAfter (day next : CivilDay) : Type 0 where
  pub civil : IsCivil next
  pub later : IsLater day next
  pub first : (other : CivilDay) → IsCivil other → IsLater day other → IsLater other next → ⊥

-- no day between the two is open
abbrev pub NoneOpenBetween : CivilDay → CivilDay → Type 0
NoneOpenBetween day next = (other : CivilDay) → IsOpen other → IsLater day other → IsLater other next → ⊥

-- the first later day that is open
pub record IsNextOpen (day next : CivilDay) : Type 0 where
  pub opens : IsOpen next
  pub later : IsLater day next
  pub first : NoneOpenBetween day next

-- no later day is open: by then the known years are over
abbrev pub IsLastOpen : CivilDay → Type 0
IsLastOpen day = (other : CivilDay) → IsOpen other → IsLater day other → ⊥
