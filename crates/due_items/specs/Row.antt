-- The row of the items of a day, as it is kept: where each message's items begin, and the item of each number.
use Rattle.std.specs.Prelude.{◌≡◌, ℕ, ◌+◌, ◌-◌, ◌<◌, ◌≤◌, List, [], ◌∷◌, map, length, nat_le, slice_index_or, Option, None, Some}
use Rattle.std.specs.List.{range_with_len}
use Rattle.batch_records.specs.DayRecord.{Day}
use Rattle.machine.specs.declared.answers.Item.{Item}
use Rattle.machine.specs.Records.Messages.{entries}
use Rattle.scan_laws.specs.Numbers.{IsItem, item_count, item_number, item_of}
use Rattle.machine.specs.Stages.Pending.{item}
use Rattle.due_items.specs.declared.row.Room.{Room}
use Rattle.due_items.specs.Due.{is_from}

pub record Row : Type 0 where
  -- by message, and behind the last one the count
  pub starts : List ℕ
  pub items : List Item
  pub room : Room

-- ---- what is kept of the items: the message of each number

-- the item of number i, of message m: its entry is how far it stands behind the first item of the message
abbrev pub item_from : List ℕ → ℕ → ℕ → Item
item_from starts m i = record { msg = m; entry = i - slice_index_or starts (m - 1) 0 }

abbrev pub item_kept : List ℕ → List ℕ → ℕ → Item
item_kept starts messages i = item_from starts (slice_index_or messages i 0) i

abbrev pub items_kept : List ℕ → List ℕ → List Item
items_kept starts messages = map (item_kept starts messages) (range_with_len 0 (length messages))

-- each is one of those of which it is known where they begin, and the next one begins behind all items
pub record AreKept (starts messages : List ℕ) : Type 0 where
  pub some : 1 ≤ length starts
  pub within : (i : ℕ) → i < length messages → slice_index_or messages i 0 ≤ length starts
  pub next : slice_index_or starts (length starts - 1) 0 ≡ length messages

-- ---- the rows of a day

-- of the first n messages, or those and the count
abbrev pub starts_of : Day → ℕ → List ℕ
starts_of day n = map (λ m. item_number day m 0) (range_with_len 1 n)

abbrev pub items_of : Day → ℕ → List Item
items_of day count = map (item_of day) (range_with_len 0 count)

-- of no message
abbrev pub no_row : Room → Row
no_row room = record { starts = 0 ∷ []; items = []; room = room }

-- of the messages from 1 to n, with this much room
abbrev pub row_upto : Day → ℕ → Room → Row
row_upto day n room = record { starts = starts_of day (n + 1); items = items_of day (item_number day (n + 1) 0); room = room }

abbrev pub row_of : Day → Room → Row
row_of day room = record { starts = starts_of day (length day.messages + 1); items = items_of day (item_count day); room = room }

-- the row is the day's, whatever room is left
abbrev pub IsRowOf : Day → Row → Type 0
IsRowOf day row = row ≡ row_of day row.room

-- there is room for message n
abbrev pub HasRoomFor : Day → ℕ → Room → Type 0
HasRoomFor day n room = (1 ≤ room.messages) × (length (entries day n) + 1 ≤ room.items)

-- what is left behind it
abbrev pub spent : Day → ℕ → Room → Room
spent day n room = record { messages = room.messages - 1; items = room.items - (length (entries day n) + 1) }

-- from the place on stand just the items that don't stand before the item from
pub record IsPlace (day : Day) (from : Item) (place : ℕ) : Type 0 where
  pub within : place ≤ item_count day
  pub parts : (i : ℕ) → i < item_count day → nat_le place i ≡ is_from from (item_of day i).msg (item_of day i).entry

-- the number of item (n, k); none exactly where the day doesn't have it
abbrev pub IsNumber : Day → ℕ → ℕ → Option ℕ → Type 0
IsNumber day n k None = IsItem day n k → ⊥
IsNumber day n k (Some i) = (i < item_count day) × (item_of day i ≡ item n k)
