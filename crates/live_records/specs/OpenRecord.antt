-- What contracts see of a batch whose entries are still coming, apart from its day.
use Rattle.std.specs.Prelude.{ℕ, ◌==◌, ◌≡◌, Bool, false, List, [], ◌∷◌, ◌++◌, Option, Some, None, length}
use Rattle.batch_records.specs.DayRecord.{Day}
use Rattle.batch_records.specs.Flat.{FitsRow}
use Rattle.batch_records.specs.Sound.{entries_in}
use Rattle.batch_records.specs.declared.day.Body.{Body}
use Rattle.batch_records.specs.declared.day.Body.TheVariants as bodies
use Rattle.batch_records.specs.declared.day.Entry.{Entry}
use Rattle.batch_records.specs.declared.day.Message.{Message}
use Rattle.batch_records.specs.declared.day.MessageRecord.{MessageRecord}

pub record OpenBatch : Type 0 where
  -- it with its entries so far, where one is open
  pub batch : Option Message
  -- how many entries it can have
  pub most : ℕ

-- the entries so far
abbrev pub entries_open : Option Message → List Entry
entries_open None = []
entries_open (Some m) = entries_in m.body

-- whether a batch has as many entries as its own record says
abbrev pub has_said : Body → Bool
has_said (bodies.Batch procedure info from till count sum entries) = length entries == count
has_said _ = false

abbrev pub is_whole : Option Message → Bool
is_whole None = false
is_whole (Some m) = has_said m.body

-- a day to whose messages it has come
abbrev pub with_open : Option Message → Day → Day
with_open None day = day
with_open (Some m) day = record day { messages = day.messages ++ m ∷ [] }

-- only an open batch has entries
abbrev pub FitsOpen : Option MessageRecord → List Entry → Type 0
FitsOpen None entries = entries ≡ []
FitsOpen (Some r) entries = FitsRow r.body entries
