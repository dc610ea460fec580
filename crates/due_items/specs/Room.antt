-- What can still come.
use Rattle.std.specs.Prelude.{ℕ, ◌+◌, ◌≤◌}
use Rattle.due_items.specs.Kept.{Due}

-- so many more messages, with so many entries in all
pub record HasRoom (messages entries : ℕ) (due : Due) : Type 0 where
  pub rows : messages ≤ due.index.row.room.messages
  pub items : messages + entries ≤ due.index.row.room.items
