use Rattle.std.proofs.Common.{◌∙◌, ◌+◌, sym, ap, arith}
use Rattle.record_rows.specs.Input.{Seen, mark_after}
use Rattle.record_rows.specs.Lines.{line_after}
use Rattle.record_rows.specs.declared.line.Line.TheVariants as lines
use Rattle.record_rows.proofs.InputFacts.{counted, mark_more, same_seen}
use Rattle.record_rows.proofs.LineFacts.{line_more}
use Rattle.record_rows.proofs.input.InputReader.feed.Goals as goal

pub overflow_add-self : goal.overflow_add-self
overflow_add-self c =
    let same = ap (λ (s : Seen). s.whole) c.self.view_is ∙ ap (λ (s : Seen). s.whole) c.read-came.ensures.others in
    omega (arith, same, c.one_if.ensures.few, c.requires)

pub returns-clause-seen : goal.returns-clause-seen
returns-clause-seen c = λ input is.
    let place = ap (λ (s : Seen). s.place) c.self.view_is ∙ c.read-came.ensures.place input is in
    let mark = ap (λ (s : Seen). s.mark) c.self.view_is ∙ ap (λ (s : Seen). s.mark) c.read-came.ensures.others ∙ ap (λ (s : Seen). s.mark) is in
    let line = ap (λ (s : Seen). s.line) c.self.view_is ∙ ap (λ (s : Seen). s.line) c.read-came.ensures.others ∙ ap (λ (s : Seen). s.line) is in
    let whole = ap (λ (s : Seen). s.whole) c.self.view_is ∙ ap (λ (s : Seen). s.whole) c.read-came.ensures.others ∙ ap (λ (s : Seen). s.whole) is in
    same_seen _ _ _ _ _ _ _ _ place
    (c.mark_after-self-inside.ensures ∙ ap (λ m. mark_after m c.args.b) mark ∙ sym (mark_more input c.args.b))
    (c.line_after-self-inside.ensures ∙ ap (λ l. line_after l c.args.b) line ∙ sym (line_more lines.Begun input c.args.b))
    ((λ i. whole i + c.one_if.ensures.value i) ∙ counted c.read-came.result _ _ _ (c.read-came.ensures.row input is))
