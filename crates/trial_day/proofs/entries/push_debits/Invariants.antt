use Rattle.std.proofs.Common.{◌≡◌, ◌++◌, map, take}
use Rattle.trial_day.specs.Trial.{debit_entry}
use Rattle.trial_day.proofs.entries.push_debits.Given as goal

abbrev pub invariant-loop-trio : goal.invariant-loop-trio
invariant-loop-trio l = l.entries ≡ l.initial.entries ++ map (debit_entry l.technical) (take l.trio-index l.trios)
