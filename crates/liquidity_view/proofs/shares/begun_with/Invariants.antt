use Rattle.std.proofs.Common.{◌≡◌, ◌≤◌, ◌*◌, ◌^◌}
use Rattle.std.specs.Prelude.{sum_by}
use Rattle.std.specs.List.{range_with_len}
use Rattle.liquidity_view.specs.Figures.{opening_of}
use Rattle.liquidity_view.proofs.shares.begun_with.Given as goal

abbrev pub invariant-loop-before : goal.invariant-loop-before
invariant-loop-before l = record { sum : l.sum ≡ sum_by (opening_of l.setting.day l.name) (range_with_len 1 l.before); small : l.sum ≤ 10 ^ 18 * l.before }
