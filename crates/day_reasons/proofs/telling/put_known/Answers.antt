use Rattle.std.proofs.Common.{◌∙◌, ◌∷◌}
use Rattle.outside_io.specs.TextLine.{text_line}
use Rattle.day_reasons.specs.Reasons.{fields_with}
use Rattle.day_reasons.proofs.PutFacts.{same_put}
use Rattle.day_reasons.proofs.telling.put_known.Goals as goal

pub returns : goal.returns
returns g c =
    let head = c.as_bytes.ensures.value ∙ c.deref.ensures.0 ∙ c.item_head-head.ensures in
    same_put _ _ _ _ _ (λ i. text_line (head i ∷ fields_with (c.setting.ensures i) (c.needed_for-needed.ensures i) c.args.why)) c.put_reason.ensures
