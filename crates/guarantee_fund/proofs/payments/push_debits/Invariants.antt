use Rattle.std.proofs.Common.{◌≡◌, ◌≤◌, length, take}
use Rattle.std.specs.Prelude.{filter, map}
use Rattle.rule_book.specs.Answering.{HasMoves}
use Rattle.rule_book.specs.Moves.{goes_to}
use Rattle.guarantee_fund.specs.Covering.{covered_by}
use Rattle.guarantee_fund.proofs.payments.push_debits.Given as goal

abbrev pub invariant-loop-found : goal.invariant-loop-found
invariant-loop-found g l = record {
  moves : l.moves.moves ≡ map (covered_by (g.D.Desk.day l.desk) (g.D.Desk.past l.desk) l.n) (filter (goes_to l.technical) (take l.found-index l.listed));
  room : HasMoves l.initial.moves l.moves;
  few : length l.moves.moves ≤ l.found-index;
}
