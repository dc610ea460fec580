use Rattle.std.proofs.Common.{◌∷◌, [], ℕ, List, ap}
use Rattle.std.specs.Prelude.{codes}
use Rattle.outside_io.specs.TextLine.{text_line}
use Rattle.day_reasons.proofs.PutFacts.{same_put}
use Rattle.day_reasons.proofs.telling.put_clock.Goals as goal

pub returns : goal.returns
returns g c = same_put _ _ _ _ _ (ap (λ (time : List ℕ). text_line (c.args.head.now ∷ codes "CLOCK" ∷ time ∷ [])) c.clock_bytes-time.ensures) c.put_fields.ensures
