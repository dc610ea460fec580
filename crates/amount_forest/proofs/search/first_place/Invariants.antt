use Rattle.std.proofs.Common.{◌≡◌, ◌<◌, ◌≤◌, length}
use Rattle.amount_forest.specs.Nodes.{list_of, number_of}
use Rattle.amount_forest.proofs.search.first_place.Given as goal

abbrev pub invariant-loop-to : goal.invariant-loop-to
invariant-loop-to l = record {
  within : l.at < length l.entries;
  of_list : list_of l.entries l.at ≡ list_of l.entries l.node;
  no_less : l.number ≤ number_of l.entries l.at;
}

abbrev pub decreases-loop-to : goal.decreases-loop-to
decreases-loop-to l = l.at
