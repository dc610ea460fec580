-- Groups of accounts: account a is in group a % 8.
use Rattle.std.specs.Prelude.{◌≡◌, ℕ, zero, suc, ◌+◌, ◌-◌, ◌*◌, ◌/◌, ◌<◌, List, length, slice_index}
use Rattle.atomic_table.specs.Seated.{TableId}
use Rattle.batch_records.specs.DayRecord.{Day}
use Rattle.commit_journal.specs.declared.line.Move.{Move}
use Rattle.commit_journal.specs.Line.{History}
use Rattle.machine.specs.Telling.Balances.{balance}
use Rattle.journal_pass.specs.Known.{Known}
use Rattle.lock_book.specs.Moving.{CanMoveAllAt}

-- the least account of the group; accounts count from 1
abbrev pub first_of : ℕ → ℕ
first_of zero = 8
first_of (suc n) = suc n

-- the account of a place in a group, from 0
abbrev pub account_at : ℕ → ℕ → ℕ
account_at number i = i * 8 + first_of number

-- how many of so many accounts are in the group
abbrev pub group_size : ℕ → ℕ → ℕ
group_size accounts number = (accounts + 8 - first_of number) / 8

-- what the accounts of the group hold over the history, in the order of their numbers
abbrev pub Balanced : Day → History → ℕ → List ℕ → Type 0
Balanced day J number items = (i : ℕ) → i < length items → slice_index items i ≡ balance day J (account_at number i)

-- the moves can be made on each account of the group, as far as they touch it
abbrev pub CanMoveIn : ℕ → List Move → List ℕ → Type 0
CanMoveIn number moves items = (i : ℕ) → i < length items → CanMoveAllAt (account_at number i) moves (slice_index items i)

-- the pass is of this table and day, and the items are the balances of the group over what it has seen
pub record IsGroup (table : TableId) (day : Day) (number : ℕ) (pass : Known) (items : List ℕ) : Type 0 where
  pub number_is : number < 8
  pub table_is : pass.table ≡ table
  pub day_is : pass.day ≡ day
  pub count_is : length items ≡ group_size (length day.accounts) number
  pub balanced : Balanced day pass.lines number items
