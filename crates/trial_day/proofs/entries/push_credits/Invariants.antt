use Rattle.std.proofs.Common.{◌≡◌, ◌++◌, map, take}
use Rattle.trial_day.specs.Trial.{credit_entry}
use Rattle.trial_day.proofs.entries.push_credits.Given as goal

abbrev pub invariant-loop-trio : goal.invariant-loop-trio
invariant-loop-trio l = l.entries ≡ l.initial.entries ++ map (credit_entry l.technical) (take l.trio-index l.trios)
