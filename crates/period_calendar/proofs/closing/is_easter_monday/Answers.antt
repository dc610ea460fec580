use Rattle.period_calendar.proofs.CalendarLemmas.{monday_by_places, civil_day_from_1}
use Rattle.period_calendar.proofs.closing.is_easter_monday.Goals as goal

pub returns : goal.returns
returns c =
    let first = civil_day_from_1 c.args.year c.args.month c.args.day c.requires.civil in
    let second = civil_day_from_1 c.args.year _ _ c.easter-easter_month.ensures.civil in
    monday_by_places c.args.year c.args.month c.args.day _ _ _ first second c.easter-easter_month.ensures.value c.day_of_year.ensures.value c.day_of_year-2.ensures.value
