use Rattle.std.proofs.Common.{◌≡◌, ◌≤◌, ◌*◌, ◌^◌}
use Rattle.guarantee_fund.proofs.Debits.{short_sum}
use Rattle.guarantee_fund.proofs.needs.short_sum.Given as goal

abbrev pub invariant-loop-found : goal.invariant-loop-found
invariant-loop-found g l = record {
  sum : l.sum ≡ short_sum (g.D.Desk.day l.desk) (g.D.Desk.past l.desk) l.n l.technical l.listed l.found-index;
  small : l.sum ≤ 10 ^ 13 * l.found-index;
}
