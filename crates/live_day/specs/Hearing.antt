-- A record that comes to a live day with a setting: what was heard before it, and the room for what may still come.
use Rattle.std.specs.Prelude.{◌≡◌, Bool, false, true}
use Rattle.batch_records.specs.DayRecord.{Day}
use Rattle.batch_records.specs.Records.{Fields}
use Rattle.record_rows.specs.Rows.{kept_row}
use Rattle.live_records.specs.Ears.{IsHeard}
use Rattle.live_records.specs.Heard.{Heard}
use Rattle.live_records.specs.declared.ear.Ear.{Ear}
use Rattle.live_records.specs.declared.ear.Outcome.{Outcome}
use Rattle.live_records.specs.declared.ear.Outcome.TheVariants as outcomes
use Rattle.rule_book.specs.Room.{HasRoom}
use Rattle.rule_book.specs.declared.batch_tables.BatchTables.{BatchTables}
use Rattle.rule_book.specs.declared.found.Found.{Found}
use Rattle.settle_floor.specs.Floors.{entries_left, messages_left}

-- this is kept of a record, after some that a reader has heard
pub record MayCome (row : Fields) (ear : Ear) (day : Day) : Type 0 where
  pub before : Heard
  pub fields : Fields
  pub is : row ≡ kept_row fields
  pub heard : IsHeard before ear day

-- there is room for all that may come to the day within its own room and its limits
abbrev pub HasRoomLeft : Day → Found → BatchTables → Type 0
HasRoomLeft day found tables = HasRoom (messages_left day) (entries_left day) day found tables

-- a message is taken
abbrev pub takes : Outcome → Bool
takes outcomes.Takes = true
takes _ = false
