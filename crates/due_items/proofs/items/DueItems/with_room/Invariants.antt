use Rattle.std.proofs.Common.{◌≡◌, ◌+◌, [], length}
use Rattle.scan_laws.specs.Numbers.{item_count, item_number}
use Rattle.due_items.specs.Kept.{HaveDue}
use Rattle.due_items.proofs.items.DueItems.with_room.Given as goal

abbrev pub invariant-loop-before : goal.invariant-loop-before
invariant-loop-before l = record {
  have : HaveDue l.setting.day l.before [] l.due;
  messages : l.due.index.row.room.messages + l.before ≡ length l.setting.day.messages;
  items : l.due.index.row.room.items + item_number l.setting.day (l.before + 1) 0 ≡ item_count l.setting.day;
}
