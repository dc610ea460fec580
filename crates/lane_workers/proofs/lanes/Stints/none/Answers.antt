use Rattle.std.proofs.Common.{◌∙◌, ◌++◌, ◌∷◌, [], List, ℕ, ap}
use Rattle.lane_workers.proofs.StintFacts.{has_none}
use Rattle.lane_workers.proofs.lanes.Stints.none.Goals as goal

pub returns : goal.returns
returns c = has_none c.args.setting.now.day c.args.workers _ c.in_ok-order.ensures.items (c.in_ok-push.ensures.items ∙ ap (λ (xs : List ℕ). xs ++ 0 ∷ []) c.new-begins.ensures.items)
