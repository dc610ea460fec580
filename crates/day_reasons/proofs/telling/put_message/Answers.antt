use Rattle.std.proofs.Common.{◌∙◌, ◌∷◌, [], ap}
use Rattle.std.specs.Prelude.{codes, decimal}
use Rattle.machine.specs.declared.answers.Phase.{Phase}
use Rattle.machine.specs.Records.Messages.{sender}
use Rattle.outside_io.specs.TextLine.{text_line}
use Rattle.outside_io.proofs.PutLemmas.{puts_first, puts_then}
use Rattle.day_reasons.specs.Reasons.{phase_word}
use Rattle.day_reasons.specs.Told.{id_of, items_text, message_text}
use Rattle.day_reasons.proofs.PutFacts.{same_put}
use Rattle.day_reasons.proofs.telling.put_message.Goals as goal

pub returns-in_err-put_message_line-clause-put : goal.returns-in_err-put_message_line-clause-put
unfolding message_text
returns-in_err-put_message_line-clause-put g c =
    let word = c.phase_word.ensures ∙ ap phase_word c.phase-phase.ensures in
    puts_first _ _ _ _ _ _ c.from_residual.ensures.0 (same_put _ _ _ _ _ (λ i. text_line (codes "W" ∷ decimal c.args.n ∷ sender (c.setting.ensures i) c.args.n ∷ id_of (c.setting.ensures i) c.args.n ∷ word i ∷ [])) c.in_err-put_message_line.ensures)

pub returns-clause-put : goal.returns-clause-put
unfolding message_text
returns-clause-put g c =
    let word = c.phase_word.ensures ∙ ap phase_word c.phase-phase.ensures in
    puts_then _ _ _ _ _ _ _ (same_put _ _ _ _ _ (λ i. text_line (codes "W" ∷ decimal c.args.n ∷ sender (c.setting.ensures i) c.args.n ∷ id_of (c.setting.ensures i) c.args.n ∷ word i ∷ [])) c.in_ok-put_message_line.ensures)
    (same_put _ _ _ _ _ (ap (λ (p : Phase). items_text (g.D.Desk.day c.args.desk.now) (g.D.Desk.past c.args.desk.now) c.args.n p) c.phase-phase.ensures) c.put_unfinished.ensures.put)
