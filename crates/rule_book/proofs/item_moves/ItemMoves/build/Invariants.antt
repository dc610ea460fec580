use Rattle.std.proofs.Common.{◌≡◌, length, map}
use Rattle.std.specs.List.{range_with_len}
use Rattle.std.specs.Prelude.{sum_by}
use Rattle.machine.specs.Records.Messages.{entries_in}
use Rattle.rule_book.specs.Moves.{entry_moves, transfer_move}
use Rattle.rule_book.proofs.item_moves.ItemMoves.build.Given as goal

abbrev pub invariant-loop-before : goal.invariant-loop-before
invariant-loop-before l = record {
  transfers : l.moves.list.transfers ≡ map (transfer_move l.day) (range_with_len 1 l.before);
  rows : l.moves.list.rows ≡ map (entry_moves l.day) (range_with_len 1 l.before);
  messages : l.moves.messages ≡ length l.day.messages;
  entries : l.moves.entries ≡ sum_by (λ m. length (entries_in m.body)) l.day.messages;
}
