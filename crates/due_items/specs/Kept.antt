-- What is kept of a day and its lines, and that it is theirs.
use Rattle.std.specs.Prelude.{◌≡◌, ℕ, ◌+◌, Bool, true, List, length}
use Rattle.batch_records.specs.DayRecord.{Day}
use Rattle.commit_journal.specs.Line.{Line, History}
use Rattle.number_set.specs.Members.{flags, has}
use Rattle.scan_laws.specs.Items.{concerns_item}
use Rattle.scan_laws.specs.Numbers.{IsItem, item_count, item_number}
use Rattle.due_items.specs.Due.{due_at}
use Rattle.due_items.specs.Index.{Index, IsIndexOf, IsIndexUpto}

pub record Due : Type 0 where
  pub index : Index
  -- by number: whether the item is due
  pub set : List Bool
  -- by number: whether the item was brought up to date, and is still to be asked for
  pub renewed : List Bool
  -- for how many more items there is room
  pub room : ℕ

-- the index is the day's, and the set has just the items that are due over the lines J; there is room to tell of each item
pub record KeepsDue (day : Day) (J : History) (due : Due) : Type 0 where
  pub index : IsIndexOf day due.index
  pub exact : due.set ≡ flags (due_at day J) (item_count day)
  pub room : length due.renewed ≡ item_count day
  pub rest : due.room ≡ due.index.row.room.items

-- the same of the messages from 1 to n
pub record HaveDue (day : Day) (n : ℕ) (J : History) (due : Due) : Type 0 where
  pub index : IsIndexUpto day n due.index
  pub exact : due.set ≡ flags (due_at day J) (item_number day (n + 1) 0)
  pub room : length due.renewed ≡ item_number day (n + 1) 0
  pub rest : due.room ≡ due.index.row.room.items

-- each item that line l after J concerns is among those that were brought up to date
abbrev pub Tells : Day → History → Line → List Bool → Type 0
Tells day J l renewed = (n k : ℕ) → IsItem day n k → concerns_item day J l n k ≡ true → has renewed (item_number day n k) ≡ true
