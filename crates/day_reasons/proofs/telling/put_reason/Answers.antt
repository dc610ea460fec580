use Rattle.std.proofs.Common.{◌∷◌, ap, sym}
use Rattle.machine.specs.declared.answers.Why.{Why}
use Rattle.outside_io.specs.TextLine.{text_line}
use Rattle.day_reasons.specs.Reasons.{fields_with}
use Rattle.day_reasons.proofs.PutFacts.{same_put}
use Rattle.day_reasons.proofs.telling.put_reason.Goals as goal

pub returns-in-Clock : goal.returns-in-Clock
returns-in-Clock g c = same_put _ _ _ _ _ (ap (λ (why : Why). text_line (c.args.head.now ∷ fields_with c.args.setting.now.day c.args.needed why)) (sym c.in-Clock.is)) c.put_clock.ensures
