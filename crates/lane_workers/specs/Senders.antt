-- Senders, numbered from 0 by their first messages, and the lanes of messages.
use Rattle.std.specs.Prelude.{ℕ, ◌%◌, if◌then◌else◌, List, [], ◌∷◌, ◌++◌, Option, fold, is_some, unwrap_or}
use Rattle.std.specs.List.{position_from}
use Rattle.batch_records.specs.DayRecord.{Day}
use Rattle.batch_records.specs.declared.day.Message.{Message}
use Rattle.machine.specs.Words.{same_name}
use Rattle.machine.specs.Records.Messages.{sender}

-- the number of a name among these, from 0
abbrev pub number_among : List (List ℕ) → List ℕ → Option ℕ
number_among names name = position_from (λ other. same_name other name) 0 names

-- a name that isn't among them yet comes last
abbrev pub with_name : List (List ℕ) → List ℕ → List (List ℕ)
with_name names name = if is_some (number_among names name) then names else names ++ name ∷ []

abbrev pub with_sender : List (List ℕ) → Message → List (List ℕ)
with_sender names m = with_name names m.sender

-- the senders of these messages, each once, in the order of their first messages
unfoldable pub senders_of : List Message → List (List ℕ)
senders_of messages = fold with_sender [] messages

-- the number of the sender of message n
abbrev pub sender_number : Day → ℕ → ℕ
sender_number day n = unwrap_or (number_among (senders_of day.messages) (sender day n)) 0

-- the lane of message n
abbrev pub lane_of : Day → ℕ → ℕ → ℕ
lane_of day workers n = sender_number day n % workers
