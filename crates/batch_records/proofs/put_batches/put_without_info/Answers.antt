use Rattle.std.proofs.Common.{◌≡◌, ◌∙◌, ◌++◌, ◌∷◌, List, ℕ, subst}
use Rattle.std.specs.Prelude.{codes, decimal}
use Rattle.cash_amounts.specs.AmountText.{amount_text}
use Rattle.outside_io.specs.Calls.{Puts}
use Rattle.outside_io.specs.TextLine.{text_line}
use Rattle.period_calendar.specs.MomentTexts.{time_text}
use Rattle.batch_records.specs.DayTexts.{procedure_word, time_field}
use Rattle.batch_records.specs.Versions.{from_label, till_label}
use Rattle.batch_records.proofs.put_batches.put_without_info.Goals as goal

pub returns-in-Some : goal.returns-in-Some
returns-in-Some g c =
    let same : c.as_bytes.result.now ≡ from_label ++ time_text c.in-Some.f =
    c.as_bytes.ensures.value ∙ c.deref.ensures.0 ∙ c.labelled_time-from.ensures in
    let a = c.args in
    let puts = subst (λ (from : List ℕ). Puts (g.S.Sink.state a.sink.now) (g.S.Sink.state c.put_till_behind.new.sink)
    (text_line (codes "BAT" ∷ a.message.now.sender ∷ a.message.now.id ∷ procedure_word a.procedure ∷ decimal a.count ∷ amount_text a.sum ∷ from ∷ time_field till_label a.till)) c.put_till_behind.result) same c.put_till_behind.ensures in
    rw c.in-Some.is puts

pub returns-in-Some-till : goal.returns-in-Some-till
returns-in-Some-till g c =
    let same : c.as_bytes-in-Some-till.result.now ≡ till_label ++ time_text c.in-Some-till.t =
    c.as_bytes-in-Some-till.ensures.value ∙ c.deref-in-Some-till.ensures.0 ∙ c.labelled_time-till.ensures in
    rw (c.in-None.is, c.in-Some-till.is) (rw same at c.put_one_time.ensures)
