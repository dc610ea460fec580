-- Messages, numbered from 1 in file order, and those that repeat an earlier one.
use Rattle.std.specs.Prelude.{ℕ, Bool, ◌&&◌, List, Option, None, Some, nat_lt}
use Rattle.std.specs.List.{find}
use Rattle.cash_amounts.specs.Tests.{same_name, some_passes}
use Rattle.batch_records.specs.DayRecord.{Day}
use Rattle.batch_records.specs.declared.day.Message.{Message}
use Rattle.batch_records.specs.Numbers.{numbered, numbers}

abbrev pub message_numbers : Day → List ℕ
message_numbers day = numbers day.messages

abbrev pub message_at : Day → ℕ → Option Message
message_at day n = numbered day.messages n

-- whether the message has this sender and identification
abbrev pub is_named : List ℕ → List ℕ → Message → Bool
is_named from id m = same_name m.sender from && same_name m.id id

-- the first message of the file with n's sender and identification
abbrev pub first_of_name : Day → ℕ → Option ℕ
first_of_name day n = first_like (message_at day n)
  where
    first_like : Option Message → Option ℕ
    first_like None = None
    first_like (Some m) = find (λ i. some_passes (is_named m.sender m.id) (message_at day i)) (message_numbers day)

-- an earlier message of the file has n's sender and identification
abbrev pub is_repeat : Day → ℕ → Bool
is_repeat day n = some_passes (λ first. nat_lt first n) (first_of_name day n)
