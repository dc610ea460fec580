-- What can still come.
use Rattle.std.specs.Prelude.{ℕ, ◌+◌, ◌≤◌, length}
use Rattle.pending_items.specs.Kept.{KeptItems}

-- so many more messages, with so many entries in all
pub record HasRoom (messages entries : ℕ) (v : KeptItems) : Type 0 where
  pub rows : messages ≤ v.rows.room
  pub items : messages + entries ≤ v.rows.queue.room
  pub ends : messages ≤ v.room
  pub blocks : length v.ends + messages ≤ v.batches.size
