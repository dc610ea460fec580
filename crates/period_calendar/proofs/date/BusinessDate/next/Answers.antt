use Rattle.std.proofs.Common.{◌∙◌, arith, sym}
use Rattle.period_calendar.specs.Calendar.{CivilDay}
use Rattle.period_calendar.proofs.NextDayLemmas.{fewer_left, none_later, still_none}
use Rattle.period_calendar.proofs.date.BusinessDate.next.Goals as goal

pub days-smaller : goal.days-smaller
days-smaller c = fewer_left (record { year = c.days.year; month = c.days.month; day = c.days.day }) _ c.days.invariant.civil (omega arith) c.day_after.ensures.after.later

pub days-preserved : goal.days-preserved
days-preserved c =
    let day : CivilDay = record { year = c.days.year; month = c.days.month; day = c.days.day } in
    let later = c.days.invariant.later in
    let after = c.day_after.ensures.after in
    record {
      civil = after.civil;
      known = omega arith;
      last = omega arith;
      later = omega (arith, later, after.later);
      first = still_none c.args.self day _ c.days.invariant.first c.days.invariant.civil (sym c.is_closing_day.ensures ∙ c.if-not-is_closing_day.false) after;
    }

pub returns : goal.returns
returns c = none_later c.args.self _ c.days.invariant.first (omega arith)
