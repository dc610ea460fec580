use Rattle.std.proofs.Common.{◌≡◌, ◌∙◌}
use Rattle.period_calendar.specs.MomentTexts.{time_text}
use Rattle.batch_records.proofs.put.put_stop.Goals as goal

pub returns : goal.returns
returns g c =
    let same : c.as_bytes.result.now ≡ time_text c.args.stop = c.as_bytes.ensures.value ∙ c.deref.ensures.0 ∙ c.put_time-time.ensures.text in
    rw same at c.put_fields.ensures
