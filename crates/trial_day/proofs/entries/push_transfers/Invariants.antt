use Rattle.std.proofs.Common.{◌≡◌, ◌++◌, map, take}
use Rattle.trial_day.specs.Trial.{transfer_entry}
use Rattle.trial_day.proofs.entries.push_transfers.Given as goal

abbrev pub invariant-loop-trio : goal.invariant-loop-trio
invariant-loop-trio l = l.entries ≡ l.initial.entries ++ map transfer_entry (take l.trio-index l.trios)
