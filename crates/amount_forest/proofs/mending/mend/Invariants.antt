use Rattle.std.proofs.Common.{◌≡◌, ◌≢◌, ℕ, ◌-◌, ◌<◌, length, vec_len, vec_capacity}
use Rattle.amount_forest.specs.declared.node.TheConstants.{NONE}
use Rattle.amount_forest.specs.Nodes.{IsMended}
use Rattle.amount_forest.proofs.mending.mend.Given as goal

abbrev pub invariant-loop-at : goal.invariant-loop-at
invariant-loop-at l = record {
  within : l.at ≢ NONE → l.at < length l.entries;
  others : (i : ℕ) → i < length l.entries → i ≢ l.at → IsMended l.entries l.links l.leasts.items i;
  size : length l.leasts.items ≡ length l.entries;
  len : vec_len l.leasts ≡ vec_len l.fn.leasts;
  capacity : vec_capacity l.leasts ≡ vec_capacity l.fn.leasts;
}

abbrev pub decreases-loop-at : goal.decreases-loop-at
decreases-loop-at l = length l.entries - l.at
