use Rattle.std.proofs.Common.{◌≡◌, ◌∙◌, ap}
use Rattle.period_calendar.specs.MomentTexts.{date_text}
use Rattle.day_chain.proofs.text.put_date.Goals as goal

pub returns : goal.returns
returns g c =
    let same : c.as_bytes.result.now ≡ date_text c.args.day.now.date = c.as_bytes.ensures.value ∙ c.deref.ensures.0 ∙ c.put-date.ensures.text ∙ ap date_text c.date.ensures in
    rw same at c.put_fields.ensures
