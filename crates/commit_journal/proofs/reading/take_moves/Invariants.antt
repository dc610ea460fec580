use Rattle.std.proofs.Common.{◌≡◌, ◌≤◌, ◌+◌, length}
use Rattle.commit_journal.specs.LineGrammar.{onto, read_moves}
use Rattle.commit_journal.proofs.reading.take_moves.Given as goal

abbrev pub invariant-loop-left : goal.invariant-loop-left
invariant-loop-left l = record {
  read : onto l.moves.moves (read_moves l.left l.rest) ≡ read_moves l.count l.input;
  room : l.moves.room + length l.moves.moves ≡ l.initial.moves.room;
  enough : l.left ≤ l.moves.room;
}

abbrev pub decreases-loop-left : goal.decreases-loop-left
decreases-loop-left l = l.left
