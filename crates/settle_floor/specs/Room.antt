-- A floor of a day that goes on.
use Rattle.std.specs.Prelude.{ℕ, ◌≡◌, ◌+◌, ◌-◌, [], length, sum_by, drop, take}
use Rattle.batch_records.specs.DayRecord.{Day}
use Rattle.batch_records.specs.declared.day.Message.{Message}
use Rattle.machine.specs.Records.Messages.{entries_in}
use Rattle.settlement_laws.specs.Fits.{Fits}
use Rattle.settle_floor.specs.Floors.{HasRoomFor, IsIndex, OnFloor, entries_left, messages_left}

-- the floor is for this day, and has room for so many more messages, with so many entries in all, whatever the day has room for
pub record IsOpen (day : Day) (messages more : ℕ) (floor : OnFloor) : Type 0 where
  pub fits : Fits day floor.journal
  pub index : IsIndex day floor.journal.history floor.index
  pub room : HasRoomFor day messages more floor

-- ---- a day that is there as a whole

-- its setup and first messages
abbrev pub front : Day → ℕ → Day
front day count = record day { messages = take count day.messages; stops = [] }

-- and all its messages and first stops
abbrev pub up_to_stop : Day → ℕ → Day
up_to_stop day count = record day { stops = take count day.stops }

-- the entries of the messages from the i-th on, i from 0
abbrev pub entries_from : Day → ℕ → ℕ
entries_from day i = sum_by (λ (m : Message). length (entries_in m.body)) (drop i day.messages)

-- the floor on which the first i messages of a day have come, with no line; there is room for the others, and for those that the day has
-- room for after them
pub record HasCome (day : Day) (i : ℕ) (floor : OnFloor) : Type 0 where
  pub empty : floor.journal.history ≡ []
  pub opened : IsOpen (front day i) (length day.messages - i + messages_left day) (entries_from day i + entries_left day) floor
