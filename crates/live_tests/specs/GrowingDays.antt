-- A day that grows as a whole day's messages and stops come.
use Rattle.std.specs.Prelude.{ℕ, ◌≡◌, ◌≤◌, Option, length, take}
use Rattle.batch_records.specs.DayRecord.{Day}
use Rattle.live_day.specs.LiveFloors.{HasMade, MessageComes, StopComes}
use Rattle.settle_floor.specs.Floors.{OnFloor}

-- the first of its messages and stops have come, in room for all stops
pub record IsFront (whole day : Day) : Type 0 where
  pub is : day ≡ record whole { messages = take (length day.messages) whole.messages; stops = take (length day.stops) whole.stops; room = day.room }
  pub room : length whole.stops ≤ day.room.stops

-- a message has come after a day, of which a floor that was at work for it knows nothing yet
abbrev pub BringsMessage : Day → Day → Type 0
BringsMessage before day = (floor : OnFloor) (holdings : ℕ → Option ℕ) → HasMade before floor holdings → MessageComes day floor holdings

-- so has a stop, at this time
abbrev pub BringsStop : Day → Day → ℕ → Type 0
BringsStop before day time = (floor : OnFloor) (holdings : ℕ → Option ℕ) → HasMade before floor holdings → StopComes day time floor holdings
