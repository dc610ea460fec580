use Rattle.std.proofs.Common.{◌≡◌, ◌++◌}
use Rattle.std.specs.Prelude.{flat_map}
use Rattle.std.specs.List.{range_with_len}
use Rattle.trial_day.specs.Trial.{technical_accounts}
use Rattle.trial_day.proofs.setup.push_technicals.Given as goal

abbrev pub invariant-loop-before : goal.invariant-loop-before
invariant-loop-before l = l.accounts ≡ l.initial.accounts ++ flat_map technical_accounts (range_with_len 1 l.before)
