use Rattle.std.proofs.Common.{◌≡◌, ◌∙◌, ◌++◌, ◌∷◌, List, ℕ, subst}
use Rattle.std.specs.Prelude.{codes, decimal}
use Rattle.cash_amounts.specs.AmountText.{amount_text}
use Rattle.outside_io.specs.Calls.{Puts}
use Rattle.outside_io.specs.TextLine.{text_line}
use Rattle.period_calendar.specs.MomentTexts.{time_text}
use Rattle.batch_records.specs.DayTexts.{procedure_word, time_field}
use Rattle.batch_records.specs.Versions.{from_label, info_label, till_label}
use Rattle.batch_records.proofs.put_batches.put_second_batch.Goals as goal

pub returns-in-Some : goal.returns-in-Some
returns-in-Some g c =
    let same : c.as_bytes.result.now ≡ info_label ++ time_text c.in-Some.i =
    c.as_bytes.ensures.value ∙ c.deref.ensures.0 ∙ c.labelled_time-info.ensures in
    let a = c.args in
    let puts = subst (λ (info : List ℕ). Puts (g.S.Sink.state a.sink.now) (g.S.Sink.state c.put_behind_info.new.sink)
    (text_line (codes "BAT" ∷ a.message.now.sender ∷ a.message.now.id ∷ procedure_word a.procedure ∷ decimal a.count ∷ amount_text a.sum ∷ info ∷ (time_field from_label a.from ++ time_field till_label a.till))) c.put_behind_info.result) same c.put_behind_info.ensures in
    rw c.in-Some.is puts
