use Rattle.std.proofs.Common.{◌∙◌}
use Rattle.period_calendar.proofs.CalendarLemmas.{same_weekday, civil_day_from_1}
use Rattle.period_calendar.proofs.civil.weekday.Goals as goal

pub returns : goal.returns
returns c =
    let first = civil_day_from_1 c.args.year c.args.month c.args.day c.requires.civil in
    c.weekday.ensures ∙ rw (c.civil_date.ensures.year, c.civil_date.ensures.month, c.civil_date.ensures.day) (same_weekday _ _ _ c.requires.first first)
