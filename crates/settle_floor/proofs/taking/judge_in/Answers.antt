-- A message that nothing stands against is taken, with its code and its moves.
use Rattle.std.proofs.Common.{◌∙◌, sym}
use Rattle.settle_floor.proofs.Intakes.{in_line-is, is_free}
use Rattle.settle_floor.proofs.taking.judge_in.Goals as goal

pub intake-code-requires-clause-message : goal.intake-code-requires-clause-message
intake-code-requires-clause-message g c = (is_free _ _ _ (sym c.why_not_taken.ensures ∙ c.in-None.is)).0

pub intake-code-requires-clause-untaken : goal.intake-code-requires-clause-untaken
intake-code-requires-clause-untaken g c = (is_free _ _ _ (sym c.why_not_taken.ensures ∙ c.in-None.is)).1

pub returns-in-None : goal.returns-in-None
returns-in-None g c = (in_line-is _ _ _ _ _ _ (sym c.why_not_taken.ensures ∙ c.in-None.is) c.head.ensures c.intake-code.ensures.code c.intake-code.ensures.moves, c.intake-code.ensures.room)
