-- What the words of a queue mean, as statements.
use Rattle.std.specs.Prelude.{◌≡◌, ◌⊎◌, ℕ, true, false, List, [], Some, Contains, All, MatchOption}
use Rattle.machine.specs.declared.answers.Item.{Item}
use Rattle.payment_queue.specs.declared.row.Row.{Row}
use Rattle.payment_queue.specs.Standing.{is_row_ahead, is_before}
use Rattle.payment_queue.specs.Queued.{Queued, blocker, blocker_at, foremost, row_in, row_of, rows}

-- one of the rows, and none of them is ahead of it
pub record IsForemost (rows : List Row) (r : Row) : Type 0 where
  pub among : Contains rows r
  pub first : All (λ s. is_row_ahead s r ≡ false) rows

abbrev pub ForemostIsFirst : Type 0
ForemostIsFirst = (rows : List Row) → MatchOption (foremost rows) (rows ≡ []) (IsForemost rows)

-- a row that is ahead of all others is the foremost
abbrev pub FirstIsForemost : Type 0
FirstIsForemost = (rows : List Row) (r : Row) → Contains rows r → All (λ s. (s ≡ r) ⊎ (is_row_ahead r s ≡ true)) rows → foremost rows ≡ Some r

-- one of the rows on the account that stand before x, and none of those is ahead of it
pub record IsFirstBefore (rows : List Row) (a : ℕ) (x r : Row) : Type 0 where
  pub among : Contains rows r
  pub account : r.account ≡ a
  pub before : is_before r x ≡ true
  pub first : All (λ s. s.account ≡ a → is_before s x ≡ true → is_row_ahead s r ≡ false) rows

-- of an item that stands on the account
abbrev pub BlockersStandFirst : Type 0
BlockersStandFirst = (rows : List Row) (a : ℕ) (item : Item) (x : Row) → row_of rows a item ≡ Some x →
    MatchOption (blocker rows a item) (All (λ s. s.account ≡ a → is_before s x ≡ false) rows) (λ y. (r : Row) × (r.item ≡ y) × IsFirstBefore rows a x r)

-- of the row at a slot
abbrev pub SlotBlockersStandFirst : Type 0
SlotBlockersStandFirst = (q : Queued) (s : ℕ) (x : Row) → row_in q.slots s ≡ Some x →
    MatchOption (blocker_at q s) (All (λ r. r.account ≡ x.account → is_before r x ≡ false) (rows q)) (λ y. (r : Row) × (r.item ≡ y) × IsFirstBefore (rows q) x.account x r)
