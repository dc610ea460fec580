use Rattle.due_items.specs.declared.chain.Key.TheVariants as keys
use Rattle.due_items.proofs.Walks.{Walks}
use Rattle.due_items.proofs.renewing.renew_cycle.Given as goal

abbrev pub invariant-loop-at : goal.invariant-loop-at
invariant-loop-at l = Walks l.setting.day l.facts l.index keys.Cycle l.start l.at l.initial.flags l.flags

abbrev pub decreases-loop-at : goal.decreases-loop-at
decreases-loop-at l = l.at
