use Rattle.std.proofs.Common.{◌≡◌, map}
use Rattle.std.specs.List.{range_with_len}
use Rattle.trial_day.specs.Trial.{trial_system}
use Rattle.trial_day.proofs.setup.trial_systems.Given as goal

abbrev pub invariant-loop-before : goal.invariant-loop-before
invariant-loop-before l = l.systems ≡ map trial_system (range_with_len 1 l.before)
