use Rattle.first_of_key.specs.Paths.{tree, IsAt}
use Rattle.first_of_key.proofs.search.end.Given as goal

abbrev pub invariant-loop-depth : goal.invariant-loop-depth
invariant-loop-depth l = IsAt (tree l.heads l.nodes) l.key l.at l.depth
