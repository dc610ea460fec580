use Rattle.std.proofs.Common.{◌≡◌, ◌∙◌, ◌∷◌, ◌++◌, [], true, false, sym, ap}
use Rattle.record_rows.specs.Input.{Seen, rows_read}
use Rattle.record_rows.specs.Lines.{line_of}
use Rattle.live_records.specs.WholeRecords.{is_over}
use Rattle.live_day.proofs.TakeFacts.{ended_broken, ended_over, open_one, rest_none_after, rest_over_failed, rest_over_value}
use Rattle.live_day.proofs.reading.DayReader.settle.Goals as goal

pub returns-in_err-end_line-clause-told : goal.returns-in_err-end_line-clause-told
returns-in_err-end_line-clause-told g c = λ front b s.
    let line : is_over (line_of (front ++ b ∷ [])) ≡ true = ap is_over (sym (ap (λ (x : Seen). x.line) s.read.is_seen)) ∙ ap is_over (sym c.line.ensures) ∙ sym c.is_over.ensures ∙ c.if-is_over.true in
    rest_over_failed front b _ _ _ _ c.from_residual.ensures.0 s.line s.within line (c.in_err-end_line.ensures.told (front ++ b ∷ []) s.read)

pub returns-then-is_over-clause-told : goal.returns-then-is_over-clause-told
returns-then-is_over-clause-told g c = λ front b s.
    let line : is_over (line_of (front ++ b ∷ [])) ≡ true = ap is_over (sym (ap (λ (x : Seen). x.line) s.read.is_seen)) ∙ ap is_over (sym c.line.ensures) ∙ sym c.is_over.ensures ∙ c.if-is_over.true in
    rest_over_value front b _ _ _ _ s.line s.within line (c.in_ok-end_line.ensures.told (front ++ b ∷ []) s.read)

pub returns-then-is_over-clause-stands : goal.returns-then-is_over-clause-stands
returns-then-is_over-clause-stands g c = λ front b s.
    let line : is_over (line_of (front ++ b ∷ [])) ≡ true = ap is_over (sym (ap (λ (x : Seen). x.line) s.read.is_seen)) ∙ ap is_over (sym c.line.ensures) ∙ sym c.is_over.ensures ∙ c.if-is_over.true in
    ended_over front b _ s.line s.within line (c.in_ok-end_line.ensures.ending (front ++ b ∷ []) s.read)

pub returns-then-is_broken-clause-told : goal.returns-then-is_broken-clause-told
returns-then-is_broken-clause-told g c = λ front b s.
    let line : is_over (line_of (front ++ b ∷ [])) ≡ false = ap is_over (sym (ap (λ (x : Seen). x.line) s.read.is_seen)) ∙ ap is_over (sym c.line.ensures) ∙ sym c.is_over.ensures ∙ c.if-is_over.false in
    rest_none_after front b _ _ s.within line

pub returns-then-is_broken-clause-stands : goal.returns-then-is_broken-clause-stands
returns-then-is_broken-clause-stands g c = λ front b s.
    let line : is_over (line_of (front ++ b ∷ [])) ≡ false = ap is_over (sym (ap (λ (x : Seen). x.line) s.read.is_seen)) ∙ ap is_over (sym c.line.ensures) ∙ sym c.is_over.ensures ∙ c.if-is_over.false in
    ended_broken front b s.within line (sym (c.is_broken.ensures (rows_read (front ++ b ∷ [])) s.read.records.heard) ∙ c.if-is_broken.true)

pub returns-clause-told : goal.returns-clause-told
returns-clause-told g c = λ front b s.
    let line : is_over (line_of (front ++ b ∷ [])) ≡ false = ap is_over (sym (ap (λ (x : Seen). x.line) s.read.is_seen)) ∙ ap is_over (sym c.line.ensures) ∙ sym c.is_over.ensures ∙ c.if-is_over.false in
    rest_none_after front b _ _ s.within line

pub returns-clause-stands : goal.returns-clause-stands
returns-clause-stands g c = λ front b s.
    let line : is_over (line_of (front ++ b ∷ [])) ≡ false = ap is_over (sym (ap (λ (x : Seen). x.line) s.read.is_seen)) ∙ ap is_over (sym c.line.ensures) ∙ sym c.is_over.ensures ∙ c.if-is_over.false in
    record { read = s.read; going = sym (c.is_broken.ensures (rows_read (front ++ b ∷ [])) s.read.records.heard) ∙ c.if-is_broken.false; line = line; within = open_one front b s.within }
