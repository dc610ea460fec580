-- The entries of a message, by its index in a list.
use Rattle.std.specs.Prelude.{ℕ, List, [], slice_get}
use Rattle.std.specs.Option.{option_map_or}
use Rattle.batch_records.specs.Sound.{entries_in}
use Rattle.batch_records.specs.declared.day.Entry.{Entry}
use Rattle.batch_records.specs.declared.day.Message.{Message}

-- none where there is no such message, or it is no batch
abbrev pub entries_at : List Message → ℕ → List Entry
entries_at messages i = option_map_or (λ m. entries_in m.body) (slice_get messages i) []
