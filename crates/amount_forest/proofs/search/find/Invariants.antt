use Rattle.std.proofs.Common.{◌≡◌, ◌<◌, ◌≤◌, length}
use Rattle.amount_forest.specs.Nodes.{list_of, place_of}
use Rattle.amount_forest.proofs.search.find.Given as goal

abbrev pub invariant-loop-at : goal.invariant-loop-at
invariant-loop-at l = record {
  within : l.at < length l.entries;
  of_list : list_of l.entries l.at ≡ list_of l.entries l.node;
  behind : l.place ≤ place_of l.links l.at;
}

abbrev pub decreases-loop-at : goal.decreases-loop-at
decreases-loop-at l = l.at
