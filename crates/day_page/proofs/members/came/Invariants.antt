use Rattle.std.proofs.Common.{◌≡◌, ◌≤◌, ◌*◌, ◌^◌, take}
use Rattle.std.specs.Prelude.{sum_by}
use Rattle.cash_amounts.specs.declared.limits.TheConstants.{MAX_ACCOUNTS}
use Rattle.day_page.specs.Members.{brought}
use Rattle.day_page.proofs.members.came.Given as goal

abbrev pub invariant-loop-one : goal.invariant-loop-one
invariant-loop-one l = record {
  sum : l.sum ≡ sum_by (brought l.counts) (take l.one-index l.moves);
  small : l.sum ≤ 10 ^ 18 * MAX_ACCOUNTS * l.one-index;
}
