use Rattle.std.proofs.Common.{◌∙◌, ap, arith, false, length}
use Rattle.std.proofs.lemmas.List.{length-replicate}
use Rattle.growing_set.proofs.GrowingLemmas.{none_at_first}
use Rattle.growing_set.proofs.growing.GrowingSet.with_room.Goals as goal

pub invariant_of-result : goal.invariant_of-result
invariant_of-result c = record {
  within = (let len = ap length c.in_ok-numbers.ensures ∙ length-replicate c.args.most false in omega (arith, len));
  few = (let fits = c.ranges.most.fits in omega (arith, fits));
  none = λ k _. none_at_first c.in_ok-numbers.numbers c.args.most k c.in_ok-numbers.ensures;
}
