use Rattle.std.proofs.Common.{◌≡◌, ◌≤◌, ◌*◌, ◌^◌, take}
use Rattle.std.specs.Prelude.{sum_by}
use Rattle.machine.specs.Records.Messages.{entries}
use Rattle.liquidity_view.specs.Shares.{share_on}
use Rattle.liquidity_view.proofs.shares.whole_share.Given as goal

abbrev pub invariant-loop-entry : goal.invariant-loop-entry
invariant-loop-entry l = record {
  sum : l.sum ≡ sum_by (share_on l.side l.setting.day l.name l.n) (take l.entry-index (entries l.setting.day l.n));
  small : l.sum ≤ 10 ^ 18 * l.entry-index;
}
