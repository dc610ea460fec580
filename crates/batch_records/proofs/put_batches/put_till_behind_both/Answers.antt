use Rattle.std.proofs.Common.{◌≡◌, ◌∙◌, ◌++◌}
use Rattle.period_calendar.specs.MomentTexts.{time_text}
use Rattle.batch_records.specs.Versions.{till_label}
use Rattle.batch_records.proofs.put_batches.put_till_behind_both.Goals as goal

pub returns-in-Some : goal.returns-in-Some
returns-in-Some g c =
    let same : c.as_bytes.result.now ≡ till_label ++ time_text c.in-Some.t =
    c.as_bytes.ensures.value ∙ c.deref.ensures.0 ∙ c.labelled_time-till.ensures in
    rw c.in-Some.is (rw same at c.put_all_times.ensures)
