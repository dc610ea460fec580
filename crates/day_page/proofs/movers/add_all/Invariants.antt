use Rattle.std.proofs.Common.{◌≡◌, ◌≤◌, ◌*◌, ◌^◌, ℕ, length, take}
use Rattle.std.specs.Prelude.{sum_by}
use Rattle.day_page.specs.Courses.{touch, turned_by}
use Rattle.day_page.proofs.movers.add_all.Given as goal

abbrev pub invariant-loop-one : goal.invariant-loop-one
invariant-loop-one l = record {
  sums : l.sums ≡ turned_by (take l.one-index l.moves) (length l.initial.sums);
  small : (a : ℕ) → sum_by (touch a) (take l.one-index l.moves) ≤ 2 * 10 ^ 18 * l.one-index;
}
