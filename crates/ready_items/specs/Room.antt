-- What can still come.
use Rattle.std.specs.Prelude.{◌≡◌, ℕ, ◌+◌, ◌≤◌}
use Rattle.ready_items.specs.Kept.{Ready}

-- so many more messages, with so many entries in all
pub record HasRoom (messages entries : ℕ) (v : Ready) : Type 0 where
  pub rows : messages ≤ v.normals.room
  pub items : messages + entries ≤ v.found.room

-- for as much as before
pub record HasSameRoom (old new : Ready) : Type 0 where
  pub rows : new.normals.room ≡ old.normals.room
  pub items : new.found.room ≡ old.found.room
