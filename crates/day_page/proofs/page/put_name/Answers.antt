use Rattle.std.proofs.Common.{◌≡◌, ◌∙◌, ap}
use Rattle.period_calendar.specs.MomentTexts.{date_text}
use Rattle.day_page.specs.Pages.{name_text}
use Rattle.day_page.proofs.page.put_name.Goals as goal

pub returns : goal.returns
unfolding name_text
returns g c =
    let same : c.as_bytes.result.now ≡ date_text c.args.setting.now.day.date = c.as_bytes.ensures.value ∙ c.deref.ensures.0 ∙ c.put-date.ensures.text ∙ ap date_text c.date.ensures in
    rw (same, c.whose_page.ensures) at c.put_pieces.ensures
