use Rattle.amount_forest.specs.Nodes.{list_of, start_of}
use Rattle.amount_forest.specs.Searches.{IsUnder}
use Rattle.amount_forest.proofs.search.descend.Given as goal

abbrev pub invariant-loop-at : goal.invariant-loop-at
invariant-loop-at l = IsUnder l.entries l.links l.leasts (list_of l.entries l.node) l.most (start_of l.links l.node) l.at

abbrev pub decreases-loop-at : goal.decreases-loop-at
decreases-loop-at l = l.at
