-- Accounts that are touched, part by part of an item.
use Rattle.std.specs.Prelude.{◌≡◌, ℕ, ◌<◌, Bool, true, List, length, Option, None, Some, slice_set}
use Rattle.batch_records.specs.DayRecord.{Day}
use Rattle.machine.specs.Stages.Pending.{item}
use Rattle.number_set.specs.Members.{has}
use Rattle.pending_items.specs.Parts.{account_of}
use Rattle.ready_items.specs.Noting.{Grows}

abbrev pub touched_by : Option ℕ → List Bool → List Bool
touched_by None flags = flags
touched_by (Some a) flags = slice_set flags a true

-- the accounts of the first so many items of message n
pub record TouchesParts (day : Day) (n count : ℕ) (old new : List Bool) : Type 0 where
  pub grows : Grows old new
  pub told : (k a : ℕ) → k < count → account_of day (item n k) ≡ Some a → a < length old → has new a ≡ true

-- the accounts below a number, and those that were
pub record TouchesBelow (count : ℕ) (old new : List Bool) : Type 0 where
  pub grows : Grows old new
  pub told : (a : ℕ) → a < count → a < length old → has new a ≡ true
