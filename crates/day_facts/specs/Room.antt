-- For how much more of a day that goes on there is room.
use Rattle.std.specs.Prelude.{ℕ, ◌+◌, ◌≤◌}
use Rattle.day_facts.specs.Facts.{Facts}

-- the facts can take so many messages more, with so many entries in all
pub record HasRoom (messages more : ℕ) (facts : Facts) : Type 0 where
  pub for_messages : messages ≤ facts.room.messages
  pub for_items : messages + more ≤ facts.room.items
