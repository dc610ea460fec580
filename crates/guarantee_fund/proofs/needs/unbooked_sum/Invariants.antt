use Rattle.std.proofs.Common.{◌≡◌, ◌≤◌, ◌*◌, ◌^◌, not}
use Rattle.std.specs.Prelude.{sum_by}
use Rattle.machine.specs.Stages.Phases.{is_booked}
use Rattle.rule_book.specs.Moves.{moved_amount}
use Rattle.rule_book.proofs.Debits.{picked}
use Rattle.guarantee_fund.proofs.needs.unbooked_sum.Given as goal

abbrev pub invariant-loop-i : goal.invariant-loop-i
invariant-loop-i g l = record {
  sum : l.sum ≡ sum_by moved_amount (picked l.technical (λ k. not (is_booked (g.D.Desk.past l.desk) l.n k)) l.listed l.i);
  small : l.sum ≤ 10 ^ 13 * l.i;
}
