use Rattle.std.proofs.Common.{ℕ, ◌≡◌, ◌-◌, ◌<◌, false, length}
use Rattle.number_set.specs.Members.{has}
use Rattle.status_messages.proofs.banks.clear.Given as goal

abbrev pub invariant-loop-a : goal.invariant-loop-a
invariant-loop-a l = record {
  length : length l.banks ≡ length l.initial.banks;
  before : (k : ℕ) → k < l.at → has l.banks k ≡ false;
}

abbrev pub decreases-loop-a : goal.decreases-loop-a
decreases-loop-a l = length l.banks - l.at
