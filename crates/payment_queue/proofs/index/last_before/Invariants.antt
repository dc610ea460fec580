use Rattle.std.proofs.Common.{◌+◌, ◌-◌, ◌^◌}
use Rattle.payment_queue.specs.Chains.{behind, IsToward}
use Rattle.payment_queue.specs.Indexed.{key, band, live, position, reversed}
use Rattle.payment_queue.proofs.index.last_before.Given as goal

abbrev pub invariant-loop-at : goal.invariant-loop-at
invariant-loop-at l = IsToward (live l.rows) (band l.rows) (reversed l.rows) l.band (2 ^ 96 - key l.place + 1) l.at

abbrev pub decreases-loop-at : goal.decreases-loop-at
decreases-loop-at l = behind (position l.rows) l.at
