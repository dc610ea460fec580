-- What each item of a day waits with, by its number, and what the items of a priority do.
use Rattle.std.specs.Prelude.{◌≡◌, ℕ, ◌+◌, ◌-◌, ◌<◌, ◌≤◌, ◌^◌, Bool, true, if◌then◌else◌, List, false, length, slice_index_or, sum_by}
use Rattle.std.specs.List.{range_with_len}
use Rattle.batch_records.specs.DayRecord.{Day}
use Rattle.commit_journal.specs.Line.{History}
use Rattle.machine.specs.Words.{is_zero}
use Rattle.machine.specs.Records.Messages.{is_b, sort_of}
use Rattle.number_set.specs.Members.{has}
use Rattle.scan_laws.specs.Numbers.{item_count, item_of}
use Rattle.day_page.specs.declared.ledger.Ledger.{Ledger}
use Rattle.day_page.specs.declared.waits.Queue.{Queue}
use Rattle.day_page.specs.declared.words.Request.{Request}
use Rattle.day_page.specs.Waits.{cents_of, has_priority, most_taken, one_if, waits}

-- ---- an item

-- what item k of message n takes from the accounts of the party once it is booked, where it waits: a batch of B all that its
-- debits take, by its item 0
abbrev pub stake : Day → Request → History → ℕ → ℕ → ℕ
stake day r J n k = if is_b (sort_of day n) then (if is_zero k then cents_of day r J n else 0) else waits day r J n k

abbrev pub stake_at : Day → Request → History → ℕ → ℕ
stake_at day r J i = stake day r J (item_of day i).msg (item_of day i).entry

-- ---- a priority

abbrev pub has_rank : Day → ℕ → ℕ → Bool
has_rank day p i = has_priority day p (item_of day i).msg

abbrev pub counted : Day → (ℕ → ℕ) → List ℕ → ℕ → ℕ → ℕ
counted day g stakes p i = if has_rank day p i then g (slice_index_or stakes i 0) else 0

unfoldable pub tally : Day → (ℕ → ℕ) → List ℕ → ℕ → ℕ
tally day g stakes p = sum_by (counted day g stakes p) (range_with_len 0 (length stakes))

abbrev pub tallied : Day → List ℕ → ℕ → Queue
tallied day stakes p = record { count = tally day one_if stakes p; cents = tally day (λ cents. cents) stakes p }

-- an item of the priority, where that is so, waits with another amount
abbrev pub with_stake : Queue → Bool → ℕ → ℕ → Queue
with_stake q counts old new = if counts then record { count = (q.count + one_if new) - one_if old; cents = (q.cents + new) - old } else q

-- it was counted before, and there is room for it
pub record TakesStake (q : Queue) (counts : Bool) (old new : ℕ) : Type 0 where
  pub cents : counts ≡ true → old ≤ q.cents + new
  pub count : counts ≡ true → one_if old ≤ q.count + one_if new
  pub cents_fit : q.cents + new < 2 ^ 128
  pub count_fits : q.count + 1 < 2 ^ 64

-- ---- what is kept

-- of each priority is kept what the items that are kept come to
pub record IsTallied (day : Day) (ledger : Ledger) : Type 0 where
  pub small : (i : ℕ) → slice_index_or ledger.stakes.items i 0 ≤ most_taken
  pub room : length ledger.stakes.items < 2 ^ 32
  pub urgent : ledger.urgent ≡ tallied day ledger.stakes.items 0
  pub high : ledger.high ≡ tallied day ledger.stakes.items 1
  pub normal : ledger.normal ≡ tallied day ledger.stakes.items 2

-- each item waits with what it does over the lines J, but for those that are still to be brought up to date
pub record IsKeptBut (day : Day) (r : Request) (J : History) (stale : List Bool) (ledger : Ledger) : Type 0 where
  pub tallied : IsTallied day ledger
  pub size : length ledger.stakes.items ≡ item_count day
  pub right : (i : ℕ) → i < item_count day → has stale i ≡ false → slice_index_or ledger.stakes.items i 0 ≡ stake_at day r J i

-- each item waits with what it does over the lines J
pub record IsKept (day : Day) (r : Request) (J : History) (ledger : Ledger) : Type 0 where
  pub tallied : IsTallied day ledger
  pub size : length ledger.stakes.items ≡ item_count day
  pub right : (i : ℕ) → i < item_count day → slice_index_or ledger.stakes.items i 0 ≡ stake_at day r J i

-- the first items do
pub record IsKeptBelow (day : Day) (r : Request) (J : History) (n : ℕ) (ledger : Ledger) : Type 0 where
  pub tallied : IsTallied day ledger
  pub size : length ledger.stakes.items ≡ item_count day
  pub right : (i : ℕ) → i < item_count day → i < n → slice_index_or ledger.stakes.items i 0 ≡ stake_at day r J i
