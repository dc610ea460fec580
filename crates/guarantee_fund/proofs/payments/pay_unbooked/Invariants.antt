use Rattle.std.proofs.Common.{◌≡◌, ◌≤◌, not, length}
use Rattle.std.specs.Prelude.{map}
use Rattle.machine.specs.Stages.Phases.{is_booked}
use Rattle.rule_book.specs.Answering.{HasMoves}
use Rattle.rule_book.proofs.Debits.{picked}
use Rattle.guarantee_fund.specs.Covering.{cover_by}
use Rattle.guarantee_fund.proofs.payments.pay_unbooked.Given as goal

abbrev pub invariant-loop-i : goal.invariant-loop-i
invariant-loop-i g l = record {
  moves : l.moves.moves ≡ map (cover_by (g.D.Desk.day l.desk) l.n) (picked l.technical (λ k. not (is_booked (g.D.Desk.past l.desk) l.n k)) l.listed l.i);
  room : HasMoves l.initial.moves l.moves;
  few : length l.moves.moves ≤ l.i;
}
