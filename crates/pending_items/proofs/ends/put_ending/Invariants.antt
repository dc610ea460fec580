use Rattle.std.proofs.Common.{◌-◌, length}
use Rattle.pending_items.proofs.ends.put_ending.Given as goal

abbrev pub decreases-loop-n : goal.decreases-loop-n
decreases-loop-n l = length l.ends.times - l.from
