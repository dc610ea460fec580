-- Messages and stops with the room that was taken for them.
use Rattle.std.specs.Prelude.{ℕ, ◌+◌, ◌≤◌, List, length, sum_by}
use Rattle.row_list.specs.Rows.{Rows}
use Rattle.batch_records.specs.declared.day.Entry.{Entry}
use Rattle.batch_records.specs.declared.day.Message.{Message}

-- the messages, and how many messages, and entries of all of them, there can be
pub record HeldMessages : Type 0 where
  pub list : List Message
  pub most_messages : ℕ
  pub most_entries : ℕ

pub record HeldStops : Type 0 where
  pub list : List ℕ
  pub most : ℕ

-- a list of records of this capacity, and these rows, have room for so many messages and entries
abbrev pub HaveRoom : ℕ → ℕ → ℕ → Rows Entry → Type 0
HaveRoom messages entries capacity rows =
    (messages ≤ capacity) × (messages ≤ length rows.rows + rows.room_for_rows) × (entries ≤ sum_by length rows.rows + rows.room_for_items)
