-- What a live day takes before its first record comes: room for the greatest day.
use Rattle.std.specs.Prelude.{◌≡◌, ◌≤◌, None, [], length}
use Rattle.cash_amounts.specs.declared.limits.TheConstants.{MAX_ACCOUNTS, MAX_ENTRIES, MAX_ENTRIES_OF_DAY, MAX_MESSAGES, MAX_SYSTEMS}
use Rattle.batch_records.specs.DayRecord.{Day}
use Rattle.day_facts.specs.Room.{HasRoom}
use Rattle.live_order.specs.Coming.{setup}
use Rattle.live_records.specs.Ears.{HasAllRoom}
use Rattle.settle_floor.specs.Room.{IsOpen}
use Rattle.status_messages.specs.Walks.{Stands}
use Rattle.live_day.specs.declared.rooms.Rooms.{Rooms}

-- a day whose accounts and systems are no more than the greatest numbers
pub record IsWithin (day : Day) : Type 0 where
  pub accounts : length day.accounts ≤ MAX_ACCOUNTS
  pub systems : length day.systems ≤ MAX_SYSTEMS

-- there is room for any such day, its messages and entries; the floor has no line, and the walk stands before the first
pub record AreRooms (rooms : Rooms) : Type 0 where
  pub shut : rooms.coming.batch ≡ None
  pub most : MAX_ENTRIES ≤ rooms.coming.most
  pub day : HasAllRoom rooms.day
  pub book_accounts : MAX_ACCOUNTS ≤ rooms.book.accounts
  pub book_systems : MAX_SYSTEMS ≤ rooms.book.systems
  pub kept : MAX_ACCOUNTS ≤ rooms.kept
  pub till : MAX_ACCOUNTS ≤ rooms.till
  pub accounts : MAX_ACCOUNTS ≤ rooms.setting.accounts
  pub messages : rooms.setting.messages ≡ MAX_MESSAGES
  pub entries : rooms.setting.entries ≡ MAX_ENTRIES_OF_DAY
  pub empty : rooms.floor.journal.history ≡ []
  pub opened : (d : Day) → IsWithin d → IsOpen (setup d) MAX_MESSAGES MAX_ENTRIES_OF_DAY rooms.floor
  pub stands : (d : Day) → IsWithin d → Stands (setup d) [] rooms.walk
  pub told : HasRoom MAX_MESSAGES MAX_ENTRIES_OF_DAY rooms.walk.facts
