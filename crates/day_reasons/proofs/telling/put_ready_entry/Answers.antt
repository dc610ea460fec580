use Rattle.std.proofs.Common.{◌∙◌, ◌∷◌, []}
use Rattle.std.specs.Prelude.{codes}
use Rattle.outside_io.specs.TextLine.{text_line}
use Rattle.day_reasons.proofs.PutFacts.{same_put}
use Rattle.day_reasons.proofs.telling.put_ready_entry.Goals as goal

pub returns : goal.returns
returns g c =
    let message = c.as_bytes.ensures.value ∙ c.format.ensures.text in
    let entry = c.as_bytes-2.ensures.value ∙ c.format-2.ensures.text in
    same_put _ _ _ _ _ (λ i. text_line (c.args.head.now ∷ codes "READY" ∷ codes "BOOK" ∷ message i ∷ entry i ∷ [])) c.put_fields.ensures
