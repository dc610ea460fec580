-- A journal in which the rest of the day has room.
use Rattle.std.specs.Prelude.{◌+◌, ◌≤◌, length}
use Rattle.batch_records.specs.DayRecord.{Day}
use Rattle.commit_journal.specs.Kept.{Kept}
use Rattle.machine.specs.Legal.{IsLegal}
use Rattle.machine.specs.Orders.Bounds.{most_lines, most_moves, moved}

pub record Fits (day : Day) (journal : Kept) : Type 0 where
  pub legal : IsLegal day journal.history
  pub room_for_lines : most_lines day ≤ length journal.history + journal.room_for_lines
  pub room_for_moves : most_moves day ≤ moved journal.history + journal.room_for_moves
