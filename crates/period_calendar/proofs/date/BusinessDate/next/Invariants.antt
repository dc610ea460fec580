use Rattle.std.proofs.Common.{◌≤◌, ◌-◌, IsTrue}
use Rattle.period_calendar.specs.Calendar.{is_civil}
use Rattle.period_calendar.specs.NextDay.{digits_of, IsLater, NoneOpenBetween}
use Rattle.period_calendar.proofs.date.BusinessDate.next.Given as goal

abbrev pub invariant-days : goal.invariant-days
invariant-days l = record {
  civil : IsTrue (is_civil l.year l.month l.day);
  known : 2023 ≤ l.year;
  last : l.year ≤ 2100;
  later : IsLater l.fn.self (record { year = l.year; month = l.month; day = l.day });
  first : NoneOpenBetween l.fn.self (record { year = l.year; month = l.month; day = l.day });
}

-- no day is later than the last of 2100
abbrev pub decreases-days : goal.decreases-days
decreases-days l = 21010000 - digits_of (record { year = l.year; month = l.month; day = l.day })
