use Rattle.std.proofs.Common.{◌≡◌, ◌≤◌, ◌+◌, ◌*◌, ◌^◌, ℕ, drop}
use Rattle.machine.specs.Telling.Balances.{credits}
use Rattle.day_page.specs.Extents.{credited_by}
use Rattle.day_page.proofs.extents.credit_all.Given as goal

-- what is left of the moves makes of these what all of them make of the first ones
abbrev pub invariant-loop-one : goal.invariant-loop-one
invariant-loop-one l = record {
  value : credited_by (drop l.one-index l.moves) l.extents ≡ credited_by l.moves l.initial.extents;
  small : (a : ℕ) → credits a l.moves ≤ 10 ^ 18 * l.one-index + credits a (drop l.one-index l.moves);
}
