-- A live day at work: its records are heard one after another, and all is made and told that they call for.
use Rattle.std.specs.Prelude.{ℕ, ◌≡◌, ◌||◌, suc, Bool, true, false, List, ◌∷◌, ◌++◌, [], Result, Ok, OnOk, None}
use Rattle.cash_amounts.specs.Numbers.{numbered}
use Rattle.outside_io.specs.Calls.{Puts}
use Rattle.outside_io.specs.Pieces.{SinkState}
use Rattle.batch_records.specs.DayRecord.{Day}
use Rattle.batch_records.specs.Made.{is_entry, is_late}
use Rattle.batch_records.specs.Records.{Fields}
use Rattle.record_rows.specs.Rows.{kept_row}
use Rattle.live_records.specs.Ears.{Fits, IsHeard, calls_said}
use Rattle.live_records.specs.Heard.{Call, Heard, day_of, hear, heard}
use Rattle.live_records.specs.declared.ear.Outcome.{Outcome}
use Rattle.live_records.specs.declared.ear.Outcome.TheVariants as outcomes
use Rattle.day_facts.specs.Room.{HasRoom}
use Rattle.live_order.specs.LiveOrder.{live}
use Rattle.settle_floor.specs.Floors.{AtWork, entries_left, messages_left}
use Rattle.status_messages.specs.Walks.{Stands}
use Rattle.live_day.specs.Events.{AreOfDay, events_in}
use Rattle.live_day.specs.Hearing.{HasRoomLeft}
use Rattle.live_day.specs.LiveFloors.{HasMade, MessageComes, StopComes, came_in}
use Rattle.live_day.specs.Told.{told_calls}
use Rattle.live_day.specs.declared.live_floor.LiveFloor.{LiveFloor}
use Rattle.live_day.specs.declared.work.Work.{Work}

-- ---- the floor

-- The lines are made that the events of a day make which have come, and are told. There is room for the statuses of all that the day can
-- still bring.
pub record HasTold (day : Day) (live_floor : LiveFloor) : Type 0 where
  pub made : HasMade day live_floor.floor (numbered live_floor.till)
  pub stands : Stands day live_floor.floor.journal.history live_floor.walk
  pub room : HasRoom (messages_left day) (entries_left day) live_floor.walk.facts

-- the last message of this day has come in, of which nothing is made or told yet
pub record LacksMessage (day : Day) (live_floor : LiveFloor) : Type 0 where
  pub comes : MessageComes day live_floor.floor (numbered live_floor.till)
  pub stands : Stands comes.before live_floor.floor.journal.history live_floor.walk
  pub room : HasRoom (messages_left comes.before) (entries_left comes.before) live_floor.walk.facts

-- its last stop has, at this time
pub record LacksStop (day : Day) (time : ℕ) (live_floor : LiveFloor) : Type 0 where
  pub comes : StopComes day time live_floor.floor (numbered live_floor.till)
  pub stands : Stands comes.before live_floor.floor.journal.history live_floor.walk
  pub room : HasRoom (messages_left comes.before) (entries_left comes.before) live_floor.walk.facts

-- one of them has, or none, by what is said of a record
abbrev pub LacksSaid : Outcome → Day → LiveFloor → Type 0
LacksSaid outcomes.Takes day live_floor = LacksMessage day live_floor
LacksSaid outcomes.Stops day live_floor = (time : ℕ) × LacksStop day time live_floor
LacksSaid _ day live_floor = HasTold day live_floor

-- all lines of the day are made
pub record IsOver (day : Day) (live_floor : LiveFloor) : Type 0 where
  pub lines : live_floor.floor.journal.history ≡ live day (suc (came_in day)) []
  pub at_work : AtWork day live_floor.floor (numbered live_floor.till)

-- ---- the day

-- this was heard, and all is made and told that it calls for
pub record IsWorking (h : Heard) (work : Work) : Type 0 where
  pub heard : IsHeard h work.ear work.setting.day
  pub fits : Fits work.ear work.setting.day
  pub room : HasRoomLeft work.setting.day work.setting.found work.setting.tables
  pub told : HasTold work.setting.day work.floor

-- these records were
abbrev pub IsAtWork : List Fields → Work → Type 0
IsAtWork records work = IsWorking (heard records) work

-- a record comes after some, of which this is kept; the first that comes is one of a message, or a stop
pub record RowComes (row : Fields) (work : Work) : Type 0 where
  pub records : List Fields
  pub fields : Fields
  pub is : row ≡ kept_row fields
  pub at_work : IsAtWork records work
  pub late : (work.ear.begun || is_late row) ≡ true

-- ---- what is told of a record

-- after these records it calls for this text
pub record TellsRow (records : List Fields) (r : Fields) (text : List ℕ) : Type 0 where
  pub more : List Call
  pub calls : (heard (records ++ r ∷ [])).calls ≡ (heard records).calls ++ more
  pub is : text ≡ told_calls (day_of (heard (records ++ r ∷ []))) (events_in (heard records).calls) more

-- ---- its parts: the batch that ends in front of the record, and then the record

-- in front of the record this was heard: the open batch has ended, where it does, and is told
pub record EndsBatch {T E : Type 0} (records : List Fields) (r : Fields) (old new : SinkState) (result : Result T E) (work : Work) : Type 0 where
  pub before : Heard
  pub more : List Call
  pub next : hear before r ≡ heard (records ++ r ∷ [])
  pub count : before.count ≡ (heard records).count
  pub calls : before.calls ≡ (heard records).calls ++ more
  pub of_day : AreOfDay before
  pub told : Puts old new (told_calls (day_of (heard (records ++ r ∷ []))) (events_in (heard records).calls) more) result
  pub working : OnOk result (IsWorking before work)

-- a record comes after this, before which no batch has to end
pub record NextComes (row : Fields) (work : Work) : Type 0 where
  pub before : Heard
  pub fields : Fields
  pub is : row ≡ kept_row fields
  pub working : IsWorking before work
  pub of_day : AreOfDay before
  pub next_of_day : AreOfDay (hear before fields)
  pub late : (work.ear.begun || is_late row) ≡ true
  pub shut : is_entry row ≡ false → work.ear.coming.batch ≡ None

-- what it calls for is told
pub record HearsNext {E : Type 0} (h : Heard) (r : Fields) (number : ℕ) (old new : SinkState) (result : Result Bool E) (work : Work) : Type 0 where
  pub said : Outcome
  pub calls : (hear h r).calls ≡ h.calls ++ calls_said number said
  pub told : Puts old new (told_calls (day_of (hear h r)) (events_in h.calls) (calls_said number said)) result
  pub goes : result ≡ Ok true → IsWorking (hear h r) work
  pub breaks : result ≡ Ok false → (hear h r).broken ≡ true
