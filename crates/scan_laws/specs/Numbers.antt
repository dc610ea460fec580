-- The items of a day in one row: message by message, item 0 of each and then its entries, numbered from 0.
use Rattle.std.specs.Prelude.{ℕ, zero, suc, ◌+◌, ◌-◌, ◌≤◌, Bool, true, false, ◌&&◌, ◌||◌, nat_lt, nat_eq, length}
use Rattle.batch_records.specs.DayRecord.{Day}
use Rattle.machine.specs.declared.answers.Item.{Item}
use Rattle.machine.specs.Records.Messages.{entries}
use Rattle.machine.specs.Stages.Pending.{item}

-- ---- groups of these sizes, one after the other

-- how many stand in the groups below n
unfoldable pub before : (ℕ → ℕ) → ℕ → ℕ
before size zero = 0
before size (suc n) = before size n + size n

-- of what stands at i in groups below n: which group it is in, and where there
unfoldable pub place_in : (ℕ → ℕ) → ℕ → ℕ → ℕ × ℕ
place_in size zero i = (0, i)
place_in size (suc n) i = elim (nat_lt i (before size n)) [ true ↦ place_in size n i | false ↦ (n, i - before size n) ]

-- ---- items

-- how many items the message after n has
abbrev pub items_after : Day → ℕ → ℕ
items_after day n = suc (length (entries day (suc n)))

unfoldable pub item_count : Day → ℕ
item_count day = before (items_after day) (length day.messages)

-- the number of item (n, k): the items of the messages before, and k
unfoldable pub item_number : Day → ℕ → ℕ → ℕ
item_number day n k = before (items_after day) (n - 1) + k

abbrev pub item_in : ℕ × ℕ → Item
item_in g = item (suc g.0) g.1

-- the item of a number
unfoldable pub item_of : Day → ℕ → Item
item_of day i = item_in (place_in (items_after day) (length day.messages) i)

-- (n, k) is an item of the day
pub record IsItem (day : Day) (n k : ℕ) : Type 0 where
  pub first : 1 ≤ n
  pub last : n ≤ length day.messages
  pub entry : k ≤ length (entries day n)

-- (n, k) stands before (m, j), by message and entry
abbrev pub is_earlier : ℕ → ℕ → ℕ → ℕ → Bool
is_earlier n k m j = nat_lt n m || nat_eq n m && nat_lt k j
