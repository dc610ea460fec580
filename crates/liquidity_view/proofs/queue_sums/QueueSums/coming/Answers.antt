use Rattle.std.proofs.Common.{◌∙◌, subst, sym}
use Rattle.liquidity_view.specs.declared.sides.Side.TheVariants as sides
use Rattle.liquidity_view.specs.Views.{QueueStands}
use Rattle.liquidity_view.proofs.CountFacts.{counted_queued}
use Rattle.liquidity_view.proofs.queue_sums.QueueSums.coming.Goals as goal

pub returns-clause-value : goal.returns-clause-value
returns-clause-value c = λ day name J stands.
    let inside = subst (QueueStands day name J) (sym c.self.view_is) stands in
    c.coming.ensures.value ∙ counted_queued sides.In day name J _ _ inside.sums.room inside.exact inside.sums.coming
