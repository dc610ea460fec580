use Rattle.std.proofs.Common.{arith}
use Rattle.jiff_core.proofs.SignedLemmas.{signed_arith}
use Rattle.period_calendar.proofs.CalendarLemmas.{ordinal_is, ordinal_bound}
use Rattle.period_calendar.proofs.civil.day_of_year.Goals as goal

pub returns-clause-value : goal.returns-clause-value
returns-clause-value c =
    let place = ordinal_is c.civil_date.result c.args.year c.args.month c.args.day c.civil_date.ensures.year c.civil_date.ensures.month c.civil_date.ensures.day in
    omega (arith, signed_arith, c.day_of_year.ensures, ordinal_bound c.civil_date.result)

pub returns-clause-bound : goal.returns-clause-bound
returns-clause-bound c =
    omega (arith, signed_arith, c.day_of_year.ensures, ordinal_bound c.civil_date.result)
