use Rattle.std.proofs.Common.{◌≡◌, ◌≤◌, length}
use Rattle.std.specs.Prelude.{map}
use Rattle.machine.specs.Stages.Phases.{is_booked}
use Rattle.rule_book.specs.Answering.{HasMoves}
use Rattle.rule_book.specs.Moves.{given_back}
use Rattle.rule_book.proofs.Debits.{picked}
use Rattle.rule_book.proofs.lines.return_booked.Given as goal

abbrev pub invariant-loop-i : goal.invariant-loop-i
invariant-loop-i g l = record {
  moves : l.moves.moves ≡ map (given_back l.technical) (picked l.technical (is_booked (g.D.Desk.past l.desk) l.n) l.listed l.i);
  room : HasMoves l.initial.moves l.moves;
  few : length l.moves.moves ≤ l.i;
}
