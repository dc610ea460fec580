use Rattle.std.proofs.Common.{◌≡◌, ◌+◌, ◌++◌, ◌∷◌, ◌<◌, [], List, length, map, take}
use Rattle.commit_journal.specs.declared.line.Move.{Move}
use Rattle.machine.specs.Records.Messages.{move_of}
use Rattle.rule_book.proofs.item_moves.push_moves.Given as goal

-- the last row has the moves of the entries so far
abbrev pub invariant-loop-entry : goal.invariant-loop-entry
invariant-loop-entry l = record {
  begun : 0 < length l.rows.rows;
  last : (done : List (List Move)) → l.initial.rows.rows ≡ done ++ [] ∷ [] → l.rows.rows ≡ done ++ map (move_of l.day) (take l.entry-index l.entry-items) ∷ [];
  row : l.rows.room_for_rows ≡ l.initial.rows.room_for_rows;
  items : l.rows.room_for_items + l.entry-index ≡ l.initial.rows.room_for_items;
}
