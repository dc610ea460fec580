-- The names of messages, and the messages that repeat an earlier one.
use Rattle.std.specs.Prelude.{ℕ, ◌≡◌, ◌+◌, ◌≤◌, ◌++◌, [], ◌∷◌, List, Option, length, map, option_map}
use Rattle.batch_records.specs.DayRecord.{Day}
use Rattle.batch_records.specs.declared.day.Message.{Message}
use Rattle.batch_records.specs.Repeats.{message_numbers}
use Rattle.batch_records.specs.RepeatsInWords.{earlier}
use Rattle.message_names.specs.Names.{MessageName, Named, first_of}

-- of messages, one after another, the names, and for each the earlier one that it repeats; and how many there can be
pub record Repeated : Type 0 where
  pub names : List MessageName
  pub repeats : List (Option ℕ)
  pub most : ℕ

-- an item for each name, and room for all that there can be
pub record HasItems (named : Named) (count room : ℕ) : Type 0 where
  pub one_each : count ≡ length named.names
  pub fits : named.most ≤ room

-- the number, from 1, of the first of these names that is this one
abbrev pub first_number : List MessageName → List ℕ → List ℕ → Option ℕ
first_number names sender id = option_map (λ i. i + 1) (first_of names sender id)

-- ---- of a day

abbrev pub name_of : Message → MessageName
name_of m = record { sender = m.sender; id = m.id }

abbrev pub names_of : Day → List MessageName
names_of day = map name_of day.messages

-- of each message the earlier one that it repeats
abbrev pub repeats_of : Day → List (Option ℕ)
repeats_of day = map (earlier day) (message_numbers day)

-- the day with one message more after its own
abbrev pub with_one : Day → Message → Day
with_one day m = record day { messages = day.messages ++ m ∷ [] }

-- these are those of the messages of a day
abbrev pub AreRepeats : Day → Repeated → Type 0
AreRepeats day r = (r.names ≡ names_of day) × (r.repeats ≡ repeats_of day)
