use Rattle.std.proofs.Common.{◌≡◌, ◌++◌, map}
use Rattle.std.specs.List.{range_with_len}
use Rattle.trial_day.specs.Trial.{dca}
use Rattle.trial_day.proofs.setup.push_dcas.Given as goal

abbrev pub invariant-loop-before : goal.invariant-loop-before
invariant-loop-before l = l.accounts ≡ l.initial.accounts ++ map dca (range_with_len 1 l.before)
