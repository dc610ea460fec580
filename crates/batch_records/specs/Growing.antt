-- Days to which a message, an entry or a stop more has come.
use Rattle.std.specs.Prelude.{ℕ, ◌-◌, List, [], ◌∷◌, ◌++◌, length, sum_by, take}
use Rattle.batch_records.specs.DayRecord.{Day}
use Rattle.batch_records.specs.Flat.{with_entries}
use Rattle.batch_records.specs.Sound.{entries_in}
use Rattle.batch_records.specs.Step.{with_entry, with_last}
use Rattle.batch_records.specs.declared.day.Entry.{Entry}
use Rattle.batch_records.specs.declared.day.Message.{Message}
use Rattle.batch_records.specs.declared.day.MessageRecord.{MessageRecord}

-- how many entries messages have together
abbrev pub entries_of : List Message → ℕ
entries_of messages = sum_by (λ m. length (entries_in m.body)) messages

-- with one message more, a batch without entries
abbrev pub with_record : MessageRecord → Day → Day
with_record message day = record day { messages = day.messages ++ with_entries message [] ∷ [] }

-- with one entry more of the last message, where that is a batch
abbrev pub with_last_entry : Entry → Day → Day
with_last_entry entry day = record day { messages = with_last (with_entry entry) day.messages }

-- without the last message
abbrev pub without_last : Day → Day
without_last day = record day { messages = take (length day.messages - 1) day.messages }

-- with one stop more
abbrev pub with_stop : ℕ → Day → Day
with_stop stop day = record day { stops = day.stops ++ stop ∷ [] }
