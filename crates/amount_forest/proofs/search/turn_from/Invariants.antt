use Rattle.std.proofs.Common.{◌≡◌, ◌<◌, ◌≤◌, length}
use Rattle.amount_forest.specs.Nodes.{link_at, list_of, place_of}
use Rattle.amount_forest.specs.Searches.{LeadsOn, reach}
use Rattle.amount_forest.proofs.search.turn_from.Given as goal

abbrev pub invariant-loop-at : goal.invariant-loop-at
invariant-loop-at l = record {
  within : l.at < length l.entries;
  of_list : list_of l.entries l.at ≡ list_of l.entries l.last;
  from : l.from ≤ place_of l.links l.at;
  leads : LeadsOn l.entries l.links l.leasts (list_of l.entries l.last) l.most (reach (link_at l.links l.at) l.from) l.turn;
}

abbrev pub decreases-loop-at : goal.decreases-loop-at
decreases-loop-at l = l.at
