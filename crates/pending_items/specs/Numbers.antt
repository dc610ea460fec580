-- The items of a day by number: message by message, item 0 of each and then its entries. Numbers count from 1.
use Rattle.std.specs.Prelude.{ℕ, zero, suc, ◌+◌, ◌-◌, ◌^◌, min, Bool, ◌&&◌, List, length, map, nat_le}
use Rattle.std.specs.Option.{option_map_or}
use Rattle.batch_records.specs.DayRecord.{Day}
use Rattle.machine.specs.declared.answers.Item.{Item}
use Rattle.machine.specs.Words.{numbered}
use Rattle.machine.specs.Records.Messages.{entries, message_numbers}

-- the number of item 0 of a message
unfoldable pub start : Day → ℕ → ℕ
start day zero = 0
start day (suc n) = start day n + suc (length (entries day n))

-- the number after all
abbrev pub number_count : Day → ℕ
number_count day = start day (suc (length day.messages))

abbrev pub number : Day → Item → ℕ
number day x = start day x.msg + x.entry

abbrev pub is_item : Day → Item → Bool
is_item day x = nat_le 1 x.msg && nat_le x.msg (length day.messages) && nat_le x.entry (length (entries day x.msg))

-- ---- as it is kept: by message where its items begin. No number is above the greatest one that there is room for

abbrev pub starts_of : Day → List ℕ
starts_of day = map (start day) (message_numbers day)

abbrev pub start_in : List ℕ → ℕ → ℕ
start_in starts n = option_map_or (λ s. s) (numbered starts n) 0

abbrev pub number_in : List ℕ → Item → ℕ
number_in starts x = min (start_in starts x.msg + x.entry) (2 ^ 32 - 1)
