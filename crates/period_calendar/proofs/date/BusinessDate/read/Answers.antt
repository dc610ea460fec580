use Rattle.std.proofs.Common.{◌∙◌, sym}
use Rattle.period_calendar.proofs.DateLemmas.{date_parts_text}
use Rattle.period_calendar.proofs.date.BusinessDate.read.Goals as goal

pub returns-clause-one_text : goal.returns-clause-one_text
returns-clause-one_text c = date_parts_text c.args.text.now _ (sym c.date_parts.ensures.value ∙ c.in-Some.is)
