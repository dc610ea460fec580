-- Days that differ in their room alone.
use Rattle.batch_records.specs.DayRecord.{Day, Room}

-- the day that states the same, with this room
abbrev pub in_room : Room → Day → Day
in_room room day = record day { room = room }
