-- The End line, or what else stands against it.
use Rattle.std.proofs.Common.{◌∙◌, sym}
use Rattle.settle_floor.proofs.Intakes.{why_going, why_over}
use Rattle.settle_floor.proofs.taking.why_not_taken.Goals as goal

pub returns-in-Some : goal.returns-in-Some
returns-in-Some g c = sym (why_over _ _ _ _ (sym c.ended.ensures ∙ c.in-Some.is))

pub returns-in-None : goal.returns-in-None
returns-in-None g c = c.obstacle.ensures ∙ sym (why_going _ _ _ (sym c.ended.ensures ∙ c.in-None.is))
