-- Items that are counted, and the sums over them.
use Rattle.std.specs.Prelude.{ℕ, ◌≡◌, ◌<◌, ◌≤◌, ◌*◌, ◌^◌, Bool, true, false, if◌then◌else◌, List, length, replicate, sum_by}
use Rattle.std.specs.List.{range_with_len}
use Rattle.cash_amounts.specs.declared.limits.TheConstants.{MAX_ENTRIES}
use Rattle.batch_records.specs.DayRecord.{Day}
use Rattle.commit_journal.specs.Line.{History}
use Rattle.machine.specs.Stages.Pending.{is_pending}
use Rattle.number_set.specs.Members.{has}
use Rattle.scan_laws.specs.Numbers.{item_count, item_of}
use Rattle.liquidity_view.specs.declared.sides.Side.{Side}
use Rattle.liquidity_view.specs.declared.sides.Side.TheVariants as sides
use Rattle.liquidity_view.specs.Figures.{item_share}

-- ---- items by their numbers

-- what the item takes or brings
abbrev pub share_at : Side → Day → List ℕ → ℕ → ℕ
share_at side day name i = item_share side day name (item_of day i).msg (item_of day i).entry

abbrev pub pending_at : Day → History → ℕ → Bool
pending_at day J i = is_pending day J (item_of day i)

-- ---- sums

pub record Counted : Type 0 where
  -- by number: whether the item is counted
  pub set : List Bool
  -- what these items take, and what they bring
  pub leaving : ℕ
  pub coming : ℕ

-- of so many items none
abbrev pub none_counted : ℕ → Counted
none_counted count = record { set = replicate count false; leaving = 0; coming = 0 }

abbrev pub counted_at : Side → Day → List ℕ → List Bool → ℕ → ℕ
counted_at side day name set i = if has set i then share_at side day name i else 0

abbrev pub counted : Side → Day → List ℕ → List Bool → ℕ
counted side day name set = sum_by (counted_at side day name set) (range_with_len 0 (length set))

-- an item may be a whole batch
abbrev pub most_of_an_item : ℕ
most_of_an_item = 10 ^ 18 * MAX_ENTRIES

-- each item has a number of 32 bits
abbrev pub most_of_all : ℕ
most_of_all = most_of_an_item * 2 ^ 32

abbrev pub IsLowAt : Side → Day → List ℕ → ℕ → Type 0
IsLowAt side day name i = share_at side day name i ≤ most_of_an_item

-- there is a flag for each item of the day, and the sums are those over the items that are counted
pub record AddsUp (day : Day) (name : List ℕ) (c : Counted) : Type 0 where
  pub room : length c.set ≡ item_count day
  pub few : length c.set < 2 ^ 32
  pub low_out : (i : ℕ) → has c.set i ≡ true → IsLowAt sides.Out day name i
  pub low_in : (i : ℕ) → has c.set i ≡ true → IsLowAt sides.In day name i
  pub leaving : c.leaving ≡ counted sides.Out day name c.set
  pub coming : c.coming ≡ counted sides.In day name c.set

pub record AreLow (leaving coming : ℕ) : Type 0 where
  pub leaving_low : leaving ≤ most_of_all
  pub coming_low : coming ≤ most_of_all

-- ---- what is counted after some lines

-- these items are counted where they are pending after the lines K, and each that was counted rightly still is
pub record Recounts (day : Day) (K : History) (which : ℕ → Type 0) (old new : List Bool) : Type 0 where
  pub own : (i : ℕ) → i < item_count day → which i → has new i ≡ pending_at day K i
  pub others : (i : ℕ) → i < item_count day → has old i ≡ pending_at day K i → has new i ≡ pending_at day K i
