use Rattle.std.proofs.Common.{◌≡◌, ◌∙◌, ◌++◌, ◌∷◌, List, ℕ, subst}
use Rattle.std.specs.Prelude.{codes, decimal}
use Rattle.cash_amounts.specs.AmountText.{amount_text}
use Rattle.outside_io.specs.Calls.{Puts}
use Rattle.outside_io.specs.TextLine.{text_line}
use Rattle.period_calendar.specs.MomentTexts.{time_text}
use Rattle.batch_records.specs.DayTexts.{procedure_word, time_field}
use Rattle.batch_records.specs.Versions.{from_label, till_label}
use Rattle.batch_records.proofs.put_batches.put_behind_info.Goals as goal

pub returns-in-Some : goal.returns-in-Some
returns-in-Some g c =
    let same : c.as_bytes.result.now ≡ from_label ++ time_text c.in-Some.f =
    c.as_bytes.ensures.value ∙ c.deref.ensures.0 ∙ c.labelled_time-from.ensures in
    let a = c.args in
    let puts = subst (λ (from : List ℕ). Puts (g.S.Sink.state a.sink.now) (g.S.Sink.state c.put_till_behind_both.new.sink)
    (text_line (codes "BAT" ∷ a.message.now.sender ∷ a.message.now.id ∷ procedure_word a.procedure ∷ decimal a.count ∷ amount_text a.sum ∷ a.info.now ∷ from ∷ time_field till_label a.till)) c.put_till_behind_both.result) same c.put_till_behind_both.ensures in
    rw c.in-Some.is puts
