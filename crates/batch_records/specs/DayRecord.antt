-- What contracts see of a day: what its file states, and the room that it has for more.
use Rattle.std.specs.Prelude.{ℕ, List}
use Rattle.cash_amounts.specs.declared.records.AccountRecord.{AccountRecord}
use Rattle.cash_amounts.specs.declared.records.SystemRecord.{SystemRecord}
use Rattle.period_calendar.specs.Calendar.{CivilDay}
use Rattle.batch_records.specs.declared.day.Message.{Message}
use Rattle.batch_records.specs.declared.day.Reserve.{Reserve}

-- How many messages, entries of all batches and stops a day can have in all without taking memory, those that it has among them.
-- It is the same whatever the day has.
pub record Room : Type 0 where
  pub messages : ℕ
  pub entries : ℕ
  pub stops : ℕ

-- none is promised, as of a day that was read whole
abbrev pub no_room : Room
no_room = record { messages = 0; entries = 0; stops = 0 }

pub record Day : Type 0 where
  pub version : ℕ
  pub date : CivilDay
  pub accounts : List AccountRecord
  pub systems : List SystemRecord
  pub reserves : List Reserve
  pub stops : List ℕ
  pub messages : List Message
  pub room : Room
