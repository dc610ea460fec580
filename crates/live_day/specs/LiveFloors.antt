-- The floor of a live day: what its events have made, and what an event finds that has come in.
use Rattle.std.specs.Prelude.{ℕ, ◌≡◌, ◌+◌, ◌<◌, ◌≤◌, min, Option, true, [], length}
use Rattle.cash_amounts.specs.declared.limits.TheConstants.{MAX_ENTRIES_OF_DAY, MAX_MESSAGES}
use Rattle.batch_records.specs.DayRecord.{Day}
use Rattle.batch_records.specs.Growing.{with_stop}
use Rattle.batch_records.specs.Sound.{entries_in, is_sound}
use Rattle.batch_records.specs.declared.day.Message.{Message}
use Rattle.machine.specs.Orders.Bounds.{entries_of_all}
use Rattle.live_order.specs.LiveOrder.{live}
use Rattle.rule_book.specs.Repeated.{with_one}
use Rattle.settle_floor.specs.Floors.{AtWork, OnFloor}

-- how many events have come: messages and stops
abbrev pub came_in : Day → ℕ
came_in day = length day.messages + length day.stops

-- the floor has the lines that they make, and is at work
pub record HasMade (day : Day) (floor : OnFloor) (holdings : ℕ → Option ℕ) : Type 0 where
  pub lines : floor.journal.history ≡ live day (came_in day) []
  pub at_work : AtWork day floor holdings

-- the last message of this day has come in, of which the floor knows nothing yet
pub record MessageComes (day : Day) (floor : OnFloor) (holdings : ℕ → Option ℕ) : Type 0 where
  pub before : Day
  pub last : Message
  pub longer : day ≡ with_one before last
  pub sound : is_sound before ≡ true
  pub round : last.round ≡ length before.stops
  pub low : length before.messages < min before.room.messages MAX_MESSAGES
  pub few : entries_of_all before + length (entries_in last.body) ≤ min before.room.entries MAX_ENTRIES_OF_DAY
  pub made : HasMade before floor holdings

-- its last stop has come in, at this time
pub record StopComes (day : Day) (time : ℕ) (floor : OnFloor) (holdings : ℕ → Option ℕ) : Type 0 where
  pub before : Day
  pub longer : day ≡ with_stop time before
  pub sound : is_sound before ≡ true
  pub made : HasMade before floor holdings
