use Rattle.std.proofs.Common.{◌≡◌, ◌≤◌, ◌+◌, ◌++◌, length, drop}
use Rattle.rule_book.specs.Answering.{HasMoves}
use Rattle.proc_d.specs.Booked.{afforded}
use Rattle.proc_d.proofs.booking.book_moves.Given as goal

abbrev pub invariant-loop-found : goal.invariant-loop-found
invariant-loop-found l = record {
  turn : l.moves.moves ++ afforded l.available (drop l.found-index l.listed) ≡ l.fn.moves.moves ++ afforded l.fn.available l.listed;
  room : length l.listed ≤ l.moves.room + l.found-index;
  kept : HasMoves l.fn.moves l.moves;
}
