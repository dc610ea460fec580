use Rattle.std.proofs.Common.{◌∙◌, ◌∷◌}
use Rattle.outside_io.specs.TextLine.{text_line}
use Rattle.day_reasons.specs.Reasons.{fields_with, needed_for}
use Rattle.day_reasons.proofs.PutFacts.{same_put}
use Rattle.day_reasons.proofs.wrong.put_why.Goals as goal

pub needed_for-needed-requires : goal.needed_for-needed-requires
needed_for-needed-requires g c = record { all = c.desk.result.all }

pub desk-requires : goal.desk-requires
desk-requires g c = c.requires.work

pub returns : goal.returns
returns g c =
    let needed = c.needed_for-needed.ensures ∙ (λ i. needed_for (c.desk.ensures.setting i).day (c.desk.ensures.journal i).history c.args.want c.args.why) in
    let head = c.as_bytes.ensures.value ∙ c.deref.ensures.0 ∙ c.wrong_head-head.ensures in
    same_put _ _ _ _ _ (λ i. text_line (head i ∷ fields_with c.args.setting.now.day (needed i) c.args.why)) c.put_reason.ensures
